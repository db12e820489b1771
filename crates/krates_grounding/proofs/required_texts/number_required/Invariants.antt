use Rattle.std.proofs.Common.{take}
use Rattle.std.specs.List.{flat_map}
use Rattle.krates_grounding.specs.Grounding.{HaveNumbers, required_in}
use Rattle.krates_grounding.proofs.required_texts.number_required.Given as goal

-- those of the crates so far have numbers
abbrev pub invariant-loop-entry : goal.invariant-loop-entry
invariant-loop-entry l = HaveNumbers l.initial.ground l.ground (flat_map required_in (take l.entry-index l.tables.crates.items))
