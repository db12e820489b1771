use Rattle.std.proofs.Common.{◌<◌, Bor, List, ap, arith, length, map, refl, subst, sym, true≢false, ◌∙◌}
use Rattle.std.proofs.lemmas.List.{take_all}
use Rattle.krates_cm.specs.declared.package.Package.{Package}
use Rattle.krates_answers.specs.Meaning.{IsMeantBy, other}
use Rattle.krates_answers.specs.Those.{AreThose}
use Rattle.krates_answers.proofs.TakenLemmas.{seen_leaves, seen_takes}
use Rattle.krates_answers.proofs.WalkedLists.{those_none}
use Rattle.krates_answers.proofs.meaning.Packages.others_by.Goals.{else-branch, then-branch+in_ok-push}
use Rattle.krates_answers.proofs.meaning.Packages.others_by.Goals as goal

pub loop-pkg-init : goal.loop-pkg-init
loop-pkg-init c = those_none _ (ap (map (λ (pkg : Bor Package). pkg.now)) c.new-meant.ensures.items)

pub loop-pkg-preserved : goal.loop-pkg-preserved
loop-pkg-preserved c =
    let l = c.loop-pkg in
    let items = c.args.self.now.others.now in
    let lt : l.pkg-index < length items = omega (arith, c.loop-pkg-test.true) in
    elim c.if-branch.branch [
      | then-branch+in_ok-push w ↦ seen_takes (λ (pkg : Bor Package). pkg.now) (λ (pkg : Bor Package). pkg.now) items l.pkg-index c.pkg-item.result c.pkg-item.result l.meant.items c.if-branch.meant.items lt c.pkg-item.is l.invariant
          (c.in_ok-means_other.ensures.0 w.if-branch.true) refl (ap (λ v. v.items) w.meant-is ∙ w.in_ok-push.ensures.items)
      | else-branch w ↦ rw w.meant-is (seen_leaves (λ (pkg : Bor Package). pkg.now) items l.pkg-index c.pkg-item.result (map (λ (pkg : Bor Package). pkg.now) l.meant.items) lt c.pkg-item.is l.invariant
          (λ is. true≢false (sym (c.in_ok-means_other.ensures.1 is) ∙ w.if-branch.false)))
    ]

pub returns : goal.returns
returns c =
    let l = c.loop-pkg in
    let items = c.args.self.now.others.now in
    subst (λ (all : List (Bor Package)). AreThose (λ pkg. IsMeantBy c.args.reading.now (other pkg)) (map (λ (pkg : Bor Package). pkg.now) all) (map (λ (pkg : Bor Package). pkg.now) l.meant.items))
    (take_all l.pkg-index items c.loop-pkg-test.false) l.invariant
