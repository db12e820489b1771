use Rattle.std.proofs.Common.{◌<◌, List, ap, arith, length, map, subst, sym, true≢false, ◌∙◌}
use Rattle.std.proofs.lemmas.List.{take_all}
use Rattle.krates_cm.specs.declared.package.Package.{Package}
use Rattle.krates_queries.specs.KrateNodes.{Match, match_view}
use Rattle.krates_queries.specs.declared.queries.krate_nodes.KrateMatch.{KrateMatch}
use Rattle.krates_answers.specs.Meaning.{IsMeantBy, kept}
use Rattle.krates_answers.specs.Those.{AreThose}
use Rattle.krates_answers.proofs.TakenLemmas.{seen_leaves, seen_takes}
use Rattle.krates_answers.proofs.WalkedLists.{those_none}
use Rattle.krates_answers.proofs.meaning.Packages.kept_by.Goals.{else-means_kept, then-means_kept+in_ok-push}
use Rattle.krates_answers.proofs.meaning.Packages.kept_by.Goals as goal

pub loop-found-init : goal.loop-found-init
loop-found-init c = those_none _ (ap (map match_view) c.new-meant.ensures.items)

pub loop-found-preserved : goal.loop-found-preserved
loop-found-preserved c =
    let l = c.loop-found in
    let items = c.args.self.now.kept.now in
    let lt : l.found-index < length items = omega (arith, c.loop-found-test.true) in
    elim c.if-means_kept.branch [
      | then-means_kept+in_ok-push w ↦ seen_takes match_view match_view items l.found-index c.found-item.result w.again.result l.meant.items c.if-means_kept.meant.items lt c.found-item.is l.invariant
          (c.means_kept.ensures.0 w.if-means_kept.true) (ap match_view w.again.ensures) (ap (λ v. v.items) w.meant-is ∙ w.in_ok-push.ensures)
      | else-means_kept w ↦ rw w.meant-is (seen_leaves match_view items l.found-index c.found-item.result (map match_view l.meant.items) lt c.found-item.is l.invariant
          (λ is. true≢false (sym (c.means_kept.ensures.1 is) ∙ w.if-means_kept.false)))
    ]

pub returns : goal.returns
returns c =
    let l = c.loop-found in
    let items = c.args.self.now.kept.now in
    subst (λ (all : List (KrateMatch Package)). AreThose (λ m. IsMeantBy c.args.reading.now (kept m)) (map match_view all) (map match_view l.meant.items))
    (take_all l.found-index items c.loop-found-test.false) l.invariant
