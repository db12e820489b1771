use Rattle.std.proofs.Common.{refl, arith}
use Rattle.krates_rules.proofs.Seen.{each_seen}
use Rattle.krates_units.specs.Machines.{HoldsAt, MachineModel, machine_view}
use Rattle.krates_units.proofs.machine.holds_on.Goals as goal

pub returns : goal.returns
returns c = (
  λ t. absurd cc,
  λ h. absurd (each_seen machine_view (λ (m : MachineModel). HoldsAt c.args.text.now m → ⊥) c.args.machines.now c.args.machines.now c.loop-machine.machine-index refl (omega arith) c.loop-machine.invariant h.0 h.1 h.2),
)
