use Rattle.std.proofs.Common.{◌≡◌, ◌<◌, List, length, map, take, subst, sym, arith, rules, tests}
use Rattle.std.proofs.lemmas.List.{length-map}
use Rattle.krates_build_facts.specs.FactModels.{FactModel, RuleModel}
use Rattle.krates_build_facts.specs.Steps.{AreSteps, given_in, step_view}
use Rattle.krates_build_checkers.specs.GivenFacts.{HasFacts}
use Rattle.krates_build_checkers.proofs.GivenSteps.{all_steps, first_fails, given_more, one_more_step, seen_step}
use Rattle.krates_build_checkers.proofs.checking.check_built.Goals as goal

pub returns-then-not-may_come_next-clause-refused : goal.returns-then-not-may_come_next-clause-refused
returns-then-not-may_come_next-clause-refused c =
    let inv = c.loop-number.invariant in
    first_fails c.args.tables.now c.args.steps.now c.loop-number.number c.index-steps-number.result c.loop-number-test.true c.index-steps-number.is inv.1
    (λ next. absurd (cc ((c.may_come_next.ensures _ inv.0).1 next, c.if-not-may_come_next.true)))

pub loop-number-preserved : goal.loop-number-preserved
loop-number-preserved c =
    let inv = c.loop-number.invariant in
    let x = c.index-steps-number.result in
    let before = map step_view (take c.loop-number.number c.args.steps.now) in
    let seen = seen_step c.args.steps.now c.loop-number.number x c.loop-number-test.true c.index-steps-number.is in
    let has = subst (HasFacts c.add.new.given) (sym (given_more before (step_view x))) (c.in_ok-add.ensures (given_in before) inv.0) in (
      subst (λ (steps : List RuleModel). HasFacts c.add.new.given (given_in steps)) (sym seen) has,
      subst (AreSteps c.args.tables.now) (sym seen) (one_more_step c.args.tables.now before (step_view x) inv.1 ((c.may_come_next.ensures before inv.0).0 c.if-not-may_come_next.false)),
    )

pub returns-clause-accepted : goal.returns-clause-accepted
returns-clause-accepted c =
    let steps = c.args.steps.now in
    let long : length (map step_view steps) ≡ length steps = length-map steps step_view in
    let lt : 0 < length steps = search (rules, tests) in
    record { some = omega (arith, long, lt); each = all_steps c.args.tables.now steps c.loop-number.number c.loop-number-test.false c.loop-number.invariant.1 }
