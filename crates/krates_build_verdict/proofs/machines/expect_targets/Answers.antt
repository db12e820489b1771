use Rattle.std.proofs.Common.{arith}
use Rattle.std.proofs.lemmas.Result.{err_from_is_err_and}
use Rattle.krates_build_verdict.proofs.SameBuild.{described_all, described_more, next_fails}
use Rattle.krates_build_verdict.proofs.machines.expect_targets.Goals as goal

pub loop-number-preserved : goal.loop-number-preserved
loop-number-preserved c =
    let l = c.loop-number in
    let x = c.index-texts-number in
    let m = c.index-machines-number in
    described_more c.args.texts.now c.args.machines.now l.number x.result m.result (omega arith) (omega arith) x.is m.is l.invariant c.in_ok-expect_machine.ensures.described

pub returns-clause-described : goal.returns-clause-described
returns-clause-described c = described_all c.args.texts.now c.args.machines.now c.loop-number.number (omega arith) (omega arith) c.loop-number.invariant

pub returns-in_err-expect_machine-clause-refused : goal.returns-in_err-expect_machine-clause-refused
returns-in_err-expect_machine-clause-refused c =
    let l = c.loop-number in
    let x = c.index-texts-number in
    let m = c.index-machines-number in
    let e = c.in_err-expect_machine.field-0.0 in
    let p = err_from_is_err_and c.from_residual.result c.from_residual.ensures.1 in
    rw (p.1, p.2) (next_fails c.args.texts.now c.args.machines.now l.number x.result m.result e (omega arith) (omega arith) x.is m.is l.invariant c.in_err-expect_machine.ensures.refused)
