use Rattle.krates_questions.specs.NodeEntry.{child_of, parent_of}
use Rattle.krates_questions.proofs.node_entry.child_place.Goals as goal

pub child_number_at-requires : goal.child_number_at-requires
child_number_at-requires c = record { there = (parent_of c.args.entry.now, child_of c.args.entry.now, c.requires.entry.at) }

pub node_place_at-requires : goal.node_place_at-requires
node_place_at-requires c = record { number = (child_of c.args.entry.now, c.child_number_at.ensures.number (parent_of c.args.entry.now) (child_of c.args.entry.now) c.requires.entry.at) }

pub returns : goal.returns
returns c = c.node_place_at.ensures (child_of c.args.entry.now) (c.child_number_at.ensures.number (parent_of c.args.entry.now) (child_of c.args.entry.now) c.requires.entry.at)
