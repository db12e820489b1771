use Rattle.krates_rules.proofs.Seen.{SeenBelow}
use Rattle.krates_units.specs.Machines.{HoldsAt, machine_view}
use Rattle.krates_units.specs.declared.machine.Machine.{Machine}
use Rattle.krates_units.proofs.machine.holds_on.Given as goal

-- the text holds at no machine so far
abbrev pub invariant-loop-machine : goal.invariant-loop-machine
invariant-loop-machine l = SeenBelow (λ (machine : Machine). HoldsAt l.text (machine_view machine) → ⊥) l.machines l.machine-index
