use Rattle.krates_rules.specs.Resolved.{id_of}
use Rattle.krates_questions.proofs.RootLemmas.{node_here}
use Rattle.krates_questions.proofs.questions.Document.node_of.Goals as goal

pub returns-in-Some : goal.returns-in-Some
returns-in-Some c = rw (← c.self.view_is) (node_here c.self.inside.lookup (id_of c.args.krate.now) c.in-Some.place.index c.index.result.now (rw (← c.self.view_is) at c.in-Some.ensures) c.index.ensures)

pub returns-in-None : goal.returns-in-None
returns-in-None c = c.in-None.ensures
