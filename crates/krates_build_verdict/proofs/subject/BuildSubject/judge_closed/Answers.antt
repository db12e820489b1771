use Rattle.std.proofs.Common.{◌≡◌, List, map, rules, subst}
use Rattle.std.proofs.lemmas.Result.{err_from_is_err_and}
use Rattle.krates_cm.specs.Document.{texts_view}
use Rattle.krates_build_checkers.specs.Closedness.{IsClosedRefused}
use Rattle.krates_build_facts.specs.FactModels.{fact_view}
use Rattle.krates_build_facts.specs.declared.facts.BuildFact.{BuildFact}
use Rattle.krates_build_verdict.proofs.BuiltCrates.{all_built}
use Rattle.krates_build_verdict.proofs.RefusedClaims.{listed_lost, listed_refused, listed_unread}
use Rattle.krates_build_verdict.proofs.SaidClaims.{says_crates}
use Rattle.krates_build_verdict.specs.BuildVerdicts.{HasBuilt, IsLostAt, NoneLost}
use Rattle.krates_build_verdict.proofs.subject.BuildSubject.judge_closed.Goals as goal

-- the crates that are counted are those of the list that is closed
pub returns-clause-holds : goal.returns-clause-holds
returns-clause-holds c =
    let same : c.deref-3.result.now ≡ c.deref-2.result.now = search rules in
    let built = subst (λ (facts : List BuildFact). HasBuilt c.in_ok-krates.krates (map fact_view facts)) same c.in_ok-krates.ensures in
    let alike : c.deref.result.now ≡ c.deref-2.result.now = search rules in
    let none = subst (λ (facts : List BuildFact). NoneLost (map fact_view facts)) alike c.in_ok-expect_none_lost.ensures.whole in
    all_built c.closed_lists.ensures.all c.args.self.now.tables _ c.in_ok-krates.krates c.in_ok-check_built_closed.ensures.closed built none

pub returns-clause-says : goal.returns-clause-says
returns-clause-says c =
    let n = c.names.result in
    let made = c.in_ok-facts.facts.items in (
      n,
      c.names.ensures,
      says_crates c.args.self.now.tables n (map texts_view c.args.named.now) made c.deref.result.now c.deref-2.result.now c.deref-3.result.now c.in_ok-krates.krates
          c.deref.ensures.value c.deref-2.ensures.value c.deref-3.ensures.value c.in_ok-facts.ensures.named c.in_ok-expect_none_lost.ensures.whole c.in_ok-check_built_closed.ensures.closed c.in_ok-krates.ensures,
    )

pub returns-in_err-facts-clause-refused : goal.returns-in_err-facts-clause-refused
returns-in_err-facts-clause-refused c =
    let n = c.names.result in
    let e = c.in_err-facts.field-0.0 in
    let p = err_from_is_err_and c.from_residual.result c.from_residual.ensures.1 in
    rw (p.1, p.2) (n, c.names.ensures, listed_unread c.args.self.now.tables n (map texts_view c.args.named.now) e c.in_err-facts.ensures.refused)

pub returns-in_err-expect_none_lost-clause-refused : goal.returns-in_err-expect_none_lost-clause-refused
returns-in_err-expect_none_lost-clause-refused c =
    let n = c.names.result in
    let made = c.in_ok-facts.facts.items in
    let e = c.in_err-expect_none_lost.field-0.0 in
    let h = c.in_err-expect_none_lost.ensures.refused in
    let lost = subst (λ (facts : List BuildFact). IsLostAt (map fact_view facts) h.0) c.deref.ensures.value h.2 in
    let p = err_from_is_err_and c.from_residual-in_err-expect_none_lost.result c.from_residual-in_err-expect_none_lost.ensures.1 in
    rw (p.1, p.2) (n, c.names.ensures, listed_lost c.args.self.now.tables n (map texts_view c.args.named.now) (map fact_view made) h.0 e c.in_ok-facts.ensures.named h.1 lost)

pub returns-in_err-check_built_closed-clause-refused : goal.returns-in_err-check_built_closed-clause-refused
returns-in_err-check_built_closed-clause-refused c =
    let t = c.args.self.now.tables in
    let n = c.names.result in
    let made = c.in_ok-facts.facts.items in
    let cause = c.in_err-check_built_closed.field-0.0 in
    let whole = subst (λ (facts : List BuildFact). NoneLost (map fact_view facts)) c.deref.ensures.value c.in_ok-expect_none_lost.ensures.whole in
    let refused = subst (λ (facts : List BuildFact). IsClosedRefused t (map fact_view facts) cause) c.deref-2.ensures.value c.in_err-check_built_closed.ensures.refused in
    let p = err_from_is_err_and c.from_residual-in_err-check_built_closed.result c.from_residual-in_err-check_built_closed.ensures.1 in
    rw p.1 (n, c.names.ensures, listed_refused t n (map texts_view c.args.named.now) (map fact_view made) cause p.0 c.in_ok-facts.ensures.named whole refused p.2)

pub returns-in_err-krates-clause-refused : goal.returns-in_err-krates-clause-refused
returns-in_err-krates-clause-refused c =
    let p = err_from_is_err_and c.from_residual-in_err-krates.result c.from_residual-in_err-krates.ensures.1 in
    rw (p.1, p.2) (c.names.result, c.names.ensures, tt)
