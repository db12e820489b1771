use Rattle.krates_cm.specs.Document.{node_view}
use Rattle.krates_questions.specs.Lookup.{resolved_view}
use Rattle.krates_rules.specs.Resolved.{id_of}
use Rattle.krates_drawing.proofs.Gathering.{lists_text}
use Rattle.krates_drawing.proofs.gather.lists.Goals as goal

pub returns : goal.returns
returns c = lists_text (resolved_view c.args.document.now) (id_of c.args.child.now.krate) (node_view c.args.child.now.node.now) c.args.name.now c.lists.result c.agrees.ensures.distinct c.requires.node c.lists.ensures
