use Rattle.std.proofs.Common.{List, arith, subst}
use Rattle.std.proofs.lemmas.Result.{err_from_is_err_and}
use Rattle.std.specs.Global.{Vec}
use Rattle.krates_ids.specs.Identity.{Identity}
use Rattle.krates_document.specs.AdmissionSteps.{DoubledRefusal}
use Rattle.krates_rules.specs.DistinctIds.{AreDistinct}
use Rattle.krates_document.proofs.AdmissionLemmas.{twice_in}
use Rattle.krates_rules.proofs.Zips.{each_next, each_all, one_seen}
use Rattle.krates_document.proofs.admission.expect_all_distinct.Goals as goal

pub loop-kids-preserved : goal.loop-kids-preserved
loop-kids-preserved c =
    let l = c.loop-kids in
    let here = subst AreDistinct c.deref.ensures.value c.in_ok-expect_distinct.ensures.distinct in
    each_next AreDistinct (λ (ks : Vec Identity). ks.items) c.args.lists.now l.kids-index c.kids-item.result (omega arith) c.kids-item.is here l.invariant

pub returns-clause-distinct : goal.returns-clause-distinct
returns-clause-distinct c = each_all AreDistinct (λ (ks : Vec Identity). ks.items) c.args.lists.now c.loop-kids.kids-index (omega arith) c.loop-kids.invariant

pub returns-in_err-expect_distinct-clause-refused : goal.returns-in_err-expect_distinct-clause-refused
returns-in_err-expect_distinct-clause-refused c =
    let error = c.in_err-expect_distinct.field-0.0 in
    let twice = subst (λ (kids : List Identity). DoubledRefusal kids error) c.deref.ensures.value c.in_err-expect_distinct.ensures.refused in
    let among = one_seen (λ (ks : Vec Identity). ks.items) c.args.lists.now c.loop-kids.kids-index c.kids-item.result (omega arith) c.kids-item.is in
    let p = err_from_is_err_and c.from_residual.result c.from_residual.ensures.1 in
    rw (p.1, p.2) (twice_in _ _ among error twice)
