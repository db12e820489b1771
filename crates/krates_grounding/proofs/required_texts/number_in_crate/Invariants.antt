use Rattle.std.proofs.Common.{take}
use Rattle.std.specs.List.{flat_map}
use Rattle.krates_build_facts.specs.Rows.{requires}
use Rattle.krates_grounding.specs.Grounding.{HaveNumbers}
use Rattle.krates_grounding.proofs.required_texts.number_in_crate.Given as goal

-- those of the targets so far have numbers
abbrev pub invariant-loop-target : goal.invariant-loop-target
invariant-loop-target l = HaveNumbers l.initial.ground l.ground (flat_map requires (take l.target-index l.entry.targets.items))
