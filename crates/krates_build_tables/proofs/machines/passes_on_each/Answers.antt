use Rattle.std.proofs.Common.{Bor, option_map, arith}
use Rattle.krates_rules.proofs.Zips.{zip_next, zip_all}
use Rattle.krates_units.specs.Machines.{machine_view}
use Rattle.krates_units.specs.declared.machine.Machine.{Machine}
use Rattle.krates_build_tables.specs.Judgements.{IsJudged}
use Rattle.krates_build_tables.proofs.machines.passes_on_each.Goals as goal

pub loop-machine-preserved : goal.loop-machine-preserved
loop-machine-preserved c =
    let l = c.loop-machine in
    rw c.in_ok-push.ensures.items (zip_next (IsJudged (option_map (λ t. t.now) c.args.text)) (λ (m : Bor Machine). machine_view m.now) c.args.machines.now l.machine-index c.machine-item.result l.passes.items
    c.in_ok-passes_here.field-0 (omega arith) c.machine-item.is c.in_ok-passes_here.ensures l.invariant)

pub returns : goal.returns
returns c =
    zip_all (IsJudged (option_map (λ t. t.now) c.args.text)) (λ (m : Bor Machine). machine_view m.now) c.args.machines.now c.loop-machine.machine-index c.loop-machine.passes.items (omega arith) c.loop-machine.invariant
