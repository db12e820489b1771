use Rattle.std.proofs.Common.{◌≡◌, Global, List, Some, String, codes, map, string_bytes, subst}
use Rattle.std.proofs.lemmas.Result.{err_from_is_err_and}
use Rattle.krates_cm.specs.Document.{texts_view}
use Rattle.krates_build_facts.specs.FactModels.{fact_view}
use Rattle.krates_build_naming.specs.NamedFacts.{fact_of}
use Rattle.krates_build_verdict.specs.ClaimRefusals.{IsUnnamed}
use Rattle.krates_build_verdict.proofs.NamedClaims.{facts_fail, facts_more}
use Rattle.krates_build_verdict.proofs.claim.facts_of.Goals as goal

pub loop-number-preserved : goal.loop-number-preserved
loop-number-preserved c =
    let l = c.loop-number in
    let n = c.args.names.now in
    let f = c.in_ok-fact_of.field-0 in
    let x = c.index-named-number in
    let named = subst (λ (words : List (String Global)). (fact_of n (map string_bytes words)).value ≡ Some (fact_view f)) c.deref.ensures.value c.in_ok-fact_of.ensures.named in
    facts_more n texts_view c.args.named.now l.number x.result l.facts.items c.push.new.self.items f c.loop-number-test.true x.is c.in_ok-push.ensures.items l.invariant named

pub returns-in_err-fact_of-clause-refused : goal.returns-in_err-fact_of-clause-refused
returns-in_err-fact_of-clause-refused c =
    let l = c.loop-number in
    let n = c.args.names.now in
    let e = c.in_err-fact_of.field-0.0 in
    let x = c.index-named-number in
    let refused = subst (λ (words : List (String Global)). IsUnnamed n (codes "fact") l.number (map string_bytes words) e) c.deref.ensures.value c.in_err-fact_of.ensures.refused in
    let p = err_from_is_err_and c.from_residual.result c.from_residual.ensures.1 in
    rw (p.1, p.2) (facts_fail n texts_view c.args.named.now l.number x.result (map fact_view l.facts.items) e c.loop-number-test.true x.is l.invariant refused)
