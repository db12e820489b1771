use Rattle.std.proofs.Common.{arith, rules}
use Rattle.std.proofs.lemmas.Grind.{elements}
use Rattle.krates_selection.proofs.kept_tables.KeptTables.edge_info.Goals as goal

pub returns : goal.returns
returns c = λ e at. grind (arith, elements)

pub index-requires : goal.index-requires
index-requires c = grind (arith, elements)

pub index-requires-2 : goal.index-requires-2
index-requires-2 c = grind (arith, elements)

pub bounds-nodes-place : goal.bounds-nodes-place
bounds-nodes-place c = grind (arith, elements)

pub offset_bounds-nodes-place : goal.offset_bounds-nodes-place
offset_bounds-nodes-place c = let within = bounds-nodes-place c in search rules
