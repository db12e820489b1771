use Rattle.std.proofs.Common.{◌≡◌, Bor}
use Rattle.krates_rules.proofs.Seen.{SeenBelow}
use Rattle.krates_units.specs.Machines.{machine_view}
use Rattle.krates_units.specs.declared.machine.Machine.{Machine}
use Rattle.krates_build_tables.proofs.machines.is_among.Given as goal

-- none so far is the machine
abbrev pub invariant-loop-other : goal.invariant-loop-other
invariant-loop-other l = SeenBelow (λ (m : Bor Machine). machine_view m.now ≡ machine_view l.machine → ⊥) l.machines l.other-index
