use Rattle.krates_questions.specs.Context.{rules_of}
use Rattle.krates_checkers.proofs.Checked.{first_fails, one_more}
use Rattle.krates_checkers.proofs.checking.check_steps.Goals as goal

pub loop-number-preserved : goal.loop-number-preserved
loop-number-preserved c =
    let q = rules_of c.args.context.now in
    one_more q c.args.steps.now c.loop-number.number c.index-steps-number.result c.loop-number-test.true c.index-steps-number.is (c.in_ok-follows.ensures.0 c.if-not-branch.false) c.loop-number.invariant

pub returns-then-not-branch-clause-refused : goal.returns-then-not-branch-clause-refused
returns-then-not-branch-clause-refused c =
    first_fails (rules_of c.args.context.now) c.args.steps.now c.loop-number.number c.index-steps-number.result c.loop-number-test.true c.index-steps-number.is
    (λ follows. absurd (cc (c.in_ok-follows.ensures.1 follows, c.if-not-branch.true))) c.loop-number.invariant
