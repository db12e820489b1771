use Rattle.std.proofs.Common.{◌≡◌, Bor, Contains, subst, refl, arith}
use Rattle.krates_rules.proofs.Seen.{each_seen, seen_more}
use Rattle.krates_rules.proofs.Zips.{one_seen}
use Rattle.krates_units.specs.Machines.{MachineModel, machine_view}
use Rattle.krates_units.specs.declared.machine.Machine.{Machine}
use Rattle.krates_build_tables.specs.Judgements.{lent_machines}
use Rattle.krates_build_tables.proofs.machines.is_among.Goals as goal

pub returns : goal.returns
returns c = (
  λ t. absurd cc,
  λ h. absurd (each_seen (λ (m : Bor Machine). machine_view m.now) (λ (m : MachineModel). m ≡ machine_view c.args.machine.now → ⊥) c.args.machines.now c.args.machines.now c.loop-other.other-index refl (omega arith)
      c.loop-other.invariant (machine_view c.args.machine.now) h refl),
)

pub returns-then-is_same : goal.returns-then-is_same
returns-then-is_same c = (
  λ _. subst (Contains (lent_machines c.args.machines.now)) (c.is_same.ensures.0 c.if-is_same.true)
      (one_seen (λ (m : Bor Machine). machine_view m.now) c.args.machines.now c.loop-other.other-index c.other-item.result (omega arith) c.other-item.is),
  λ _. refl,
)

pub loop-other-preserved : goal.loop-other-preserved
loop-other-preserved c =
    seen_more (λ (m : Bor Machine). machine_view m.now ≡ machine_view c.args.machine.now → ⊥) c.args.machines.now c.loop-other.other-index c.other-item.result (omega arith) c.other-item.is c.loop-other.invariant
    (λ e. let t = c.is_same.ensures.1 e in absurd cc)
