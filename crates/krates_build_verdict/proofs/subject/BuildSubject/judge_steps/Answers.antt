use Rattle.std.proofs.Common.{◌≡◌, ◌-◌, List, Contains, length, map, rules, subst, sym}
use Rattle.std.proofs.lemmas.Result.{err_from_is_err_and}
use Rattle.krates_build_certificate.specs.BuildCertificateViews.{step_told}
use Rattle.krates_build_checkers.specs.Acceptance.{IsRefused}
use Rattle.krates_build_facts.specs.FactModels.{RuleModel, fact_view}
use Rattle.krates_build_facts.specs.Steps.{step_view}
use Rattle.krates_build_facts.specs.declared.steps.BuildStep.{BuildStep}
use Rattle.krates_rules.proofs.Elements.{contains_image}
use Rattle.krates_rules.proofs.Standings.{contains_at}
use Rattle.krates_build_verdict.proofs.RefusedClaims.{told_refused, told_unread}
use Rattle.krates_build_verdict.proofs.SaidClaims.{says_fact}
use Rattle.krates_build_verdict.proofs.subject.BuildSubject.judge_steps.Goals as goal

-- the last step is one of those that are accepted
pub returns-clause-holds : goal.returns-clause-holds
returns-clause-holds c =
    let last = c.in-Some.last.now in
    let looked = c.deref-2.result.now in
    let checked = c.deref.result.now in
    let same : looked ≡ checked = search rules in
    let at : Contains looked last = contains_at looked (length looked - 1) last (sym c.in-Some.ensures.value) in
    let there = subst (λ (steps : List BuildStep). Contains steps last) same at in
    let given = contains_image (λ (step : RuleModel). step.fact) (map step_view checked) (step_view last) (contains_image step_view checked last there) in
    c.accepted_lists.ensures.follows c.args.self.now.tables (map step_view checked) c.in_ok-check_built.ensures.accepted (fact_view last.fact) given

pub returns-clause-says : goal.returns-clause-says
returns-clause-says c =
    let made = c.in_ok-steps.steps.items in
    let n = c.names.result in
    let long : c.len.result ≡ length made = search rules in (
      n,
      c.names.ensures,
      says_fact c.args.self.now.tables n (map step_told c.args.named.now) made c.deref.result.now c.deref-2.result.now c.in-Some.last.now c.len.result c.deref.ensures.value c.deref-2.ensures.value long
          c.in_ok-steps.ensures.named c.in_ok-check_built.ensures.accepted (sym c.in-Some.ensures.value),
    )

pub returns-in_err-steps-clause-refused : goal.returns-in_err-steps-clause-refused
returns-in_err-steps-clause-refused c =
    let n = c.names.result in
    let e = c.in_err-steps.field-0.0 in
    let p = err_from_is_err_and c.from_residual.result c.from_residual.ensures.1 in
    rw (p.1, p.2) (n, c.names.ensures, told_unread c.args.self.now.tables n (map step_told c.args.named.now) e c.in_err-steps.ensures.refused)

pub returns-in_err-check_built-clause-refused : goal.returns-in_err-check_built-clause-refused
returns-in_err-check_built-clause-refused c =
    let t = c.args.self.now.tables in
    let n = c.names.result in
    let made = c.in_ok-steps.steps.items in
    let cause = c.in_err-check_built.field-0.0 in
    let refused = subst (λ (steps : List BuildStep). IsRefused t (map step_view steps) cause) c.deref.ensures.value c.in_err-check_built.ensures.refused in
    let p = err_from_is_err_and c.from_residual-in_err-check_built.result c.from_residual-in_err-check_built.ensures.1 in
    rw p.1 (n, c.names.ensures, told_refused t n (map step_told c.args.named.now) (map step_view made) cause p.0 c.in_ok-steps.ensures.named refused p.2)
