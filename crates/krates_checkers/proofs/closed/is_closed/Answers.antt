use Rattle.std.proofs.Common.{List, Bor, ap, sym, subst}
use Rattle.std.proofs.lemmas.Result.{IfOk-weaker}
use Rattle.krates_questions.specs.Context.{document_of}
use Rattle.krates_derive.specs.Giving.{AllIn, TheseRootsIn}
use Rattle.krates_rules.specs.StepViews.{facts_view}
use Rattle.krates_ids.specs.Identity.{Identity}
use Rattle.krates_questions.specs.DocumentAnswers.{lent_ids}
use Rattle.krates_rules.specs.Facts.{Fact}
use Rattle.krates_checkers.proofs.ClosedLists.{closed_told}
use Rattle.krates_checkers.proofs.closed.is_closed.Goals as goal

pub returns-then-not-are_roots_in : goal.returns-then-not-are_roots_in
returns-then-not-are_roots_in c = (
  λ t. absurd cc,
  λ closed. absurd (
      let r = document_of c.args.context.now in
      let s = c.args.context.now.setting.now in
      let w = (closed_told r s c.args.facts.now).1 closed in
      let rooted = subst (λ (ks : List (Bor Identity)). TheseRootsIn r s (facts_view c.args.facts.now) (lent_ids ks)) (sym c.deref.ensures.value) (λ i h. w.0 i ((c.in_ok-roots.ensures.each i).1 h)) in
      cc (c.are_roots_in.ensures.1 (subst (λ (fs : List Fact). TheseRootsIn r s fs (lent_ids c.deref.result.now)) (sym (ap facts_view c.in_ok-set.ensures)) rooted), c.if-not-are_roots_in.true)),
)

pub returns : goal.returns
returns c =
    let r = document_of c.args.context.now in
    let s = c.args.context.now.setting.now in
    let xs = c.args.facts.now in
    let here = subst (λ (fs : List Fact). TheseRootsIn r s fs (lent_ids c.deref.result.now)) (ap facts_view c.in_ok-set.ensures) (c.are_roots_in.ensures.0 c.if-not-are_roots_in.false) in
    let rooted = subst (λ (ks : List (Bor Identity)). TheseRootsIn r s (facts_view xs) (lent_ids ks)) c.deref.ensures.value here in
    let all = closed_told r s xs in
    IfOk-weaker c.are_facts_in.result _ _ (λ b told. (
      λ t. all.0 ((λ i root. rooted i ((c.in_ok-roots.ensures.each i).0 root)), subst (λ (fs : List Fact). AllIn r s fs (facts_view xs)) (ap facts_view c.in_ok-set.ensures) (told.0 t)),
      λ closed. told.1 (subst (λ (fs : List Fact). AllIn r s fs (facts_view xs)) (sym (ap facts_view c.in_ok-set.ensures)) (all.1 closed).1),
    )) c.are_facts_in.ensures
