use Rattle.krates_rules.specs.Resolved.{id_of}
use Rattle.krates_questions.proofs.questions.Document.node_place.Goals as goal

pub node_place_at-requires : goal.node_place_at-requires
node_place_at-requires c = record { number = (id_of c.args.id.now, c.crate_number.ensures) }

pub returns : goal.returns
returns c = c.node_place_at.ensures (id_of c.args.id.now) c.crate_number.ensures
