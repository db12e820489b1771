use Rattle.std.proofs.Common.{◌≡◌, ◌∙◌, sym, refl, subst, true, false, arith, length, ◌<◌}
use Rattle.krates_document.specs.AdmissionSteps.{HasDoubled}
use Rattle.krates_rules.proofs.DistinctIds.{has_seen, seen_more, distinct_more, distinct_all, seen_twice, not_false, not_true}
use Rattle.krates_document.proofs.admission.expect_distinct.Goals as goal

pub loop-kid-init : goal.loop-kid-init
loop-kid-init c = record {
  same = λ x. rw c.new-seen.ensures.empty refl;
  distinct = λ id t. absurd (cc t.at_first);
}

pub returns-then-not-branch-clause-refused : goal.returns-then-not-branch-clause-refused
returns-then-not-branch-clause-refused c =
    let l = c.loop-kid in
    let x = c.kid-item.result in
    let lt : l.kid-index < length c.args.kids.now = omega arith in
    let seen : has_seen l.seen.keys x ≡ true = not_false _ (sym c.if-not-branch.true ∙ c.in_ok-insert.ensures.added) in
    let twice = seen_twice c.comparison.ensures.order c.args.kids.now l.kid-index x lt c.kid-item.is (sym (l.invariant.same x) ∙ seen) in
    subst (HasDoubled c.args.kids.now) (sym c.in_ok-clone.ensures.cases) ((l.kid-index, lt, sym c.kid-item.is), twice)

pub loop-kid-preserved : goal.loop-kid-preserved
loop-kid-preserved c =
    let l = c.loop-kid in
    let x = c.kid-item.result in
    let lt : l.kid-index < length c.args.kids.now = omega arith in
    let none : has_seen l.seen.keys x ≡ false = not_true _ (sym c.if-not-branch.false ∙ c.in_ok-insert.ensures.added) in
    record {
      same = λ y. rw c.in_ok-insert.ensures.keys (seen_more l.seen.keys _ c.args.kids.now l.kid-index lt c.kid-item.is l.invariant.same none y);
      distinct = distinct_more c.comparison.ensures.order c.args.kids.now l.kid-index x lt c.kid-item.is l.invariant.distinct (sym (l.invariant.same x) ∙ none);
    }

pub returns-clause-distinct : goal.returns-clause-distinct
returns-clause-distinct c = distinct_all c.args.kids.now c.loop-kid.kid-index (omega arith) c.loop-kid.invariant.distinct
