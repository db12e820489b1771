use Rattle.std.proofs.Common.{◌↔◌, IsTrue, subst}
use Rattle.std.proofs.lemmas.Result.{IfOk-weaker}
use Rattle.krates_questions.specs.Context.{rules_of}
use Rattle.krates_rules.specs.StepViews.{steps_view}
use Rattle.krates_rules.specs.Steps.{StepModel, StepFollows}
use Rattle.krates_checkers.proofs.Checked.{one_used, two_used, many_used}
use Rattle.krates_checkers.proofs.checking.follows.Goals as goal

pub returns-in-len1 : goal.returns-in-len1
returns-in-len1 c =
    let q = rules_of c.args.context.now in
    let same = one_used c.args.step.now c.as_slice.result.now c.as_slice.ensures.value c.in-len1.len_at_least c.in-len1.len_below in
    IfOk-weaker c.follows_one.result _ _ (λ b told. subst (λ (x : StepModel). IsTrue b ↔ StepFollows q (steps_view c.args.steps.now) c.args.number x) same told) c.follows_one.ensures

pub returns-in-len2 : goal.returns-in-len2
returns-in-len2 c =
    let q = rules_of c.args.context.now in
    let same = two_used c.args.step.now c.as_slice.result.now c.as_slice.ensures.value c.in-len2.len_at_least c.in-len2.len_below in
    subst (λ (x : StepModel). IsTrue c.follows_two.result ↔ StepFollows q (steps_view c.args.steps.now) c.args.number x) same c.follows_two.ensures

pub returns-in_default : goal.returns-in_default
returns-in_default c =
    let q = rules_of c.args.context.now in
    (λ t. absurd cc, λ s. absurd (many_used q c.args.steps.now c.args.number c.args.step.now c.as_slice.result.now c.as_slice.ensures.value c.in_default.len_at_least s))
