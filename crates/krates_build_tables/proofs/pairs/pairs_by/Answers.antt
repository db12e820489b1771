use Rattle.std.proofs.Common.{◌≡◌, ◌↔◌, ◌++◌, ◌∷◌, [], Contains, map, refl, rules, sym, ap, ◌∙◌, subst, arith}
use Rattle.krates_cm.specs.Document.{DependencyModel, dep_kind_info_view, dependency_view}
use Rattle.krates_questions.specs.NodeEntry.{child_of, parent_of}
use Rattle.krates_rules.specs.Facts.{Edge}
use Rattle.krates_build_tables.specs.Pairs.{GivesBy, pair_view}
use Rattle.krates_build_tables.proofs.Listing.{lists_none, lists_put, lists_kept, lists_all}
use Rattle.krates_cm.specs.Document.{DepKindInfoModel}
use Rattle.krates_build_tables.proofs.pairs.pairs_by.Goals.{then-fits_info+in_ok-push, else-fits_info}
use Rattle.krates_build_tables.proofs.pairs.pairs_by.Goals as goal

pub loop-info-init : goal.loop-info-init
loop-info-init c = rw c.new-pairs.ensures.items (lists_none (GivesBy (parent_of c.args.entry.now) (child_of c.args.entry.now) (dependency_view c.args.declared.now)))

pub loop-info-preserved : goal.loop-info-preserved
loop-info-preserved c =
    let l = c.loop-info in
    let infos = c.deref-info-items.result.now in
    let info = c.info-item.result in
    let x = c.args.entry.now in
    let T = GivesBy (parent_of x) (child_of x) (dependency_view c.args.declared.now) in
    elim c.if-fits_info.branch [
      | then-fits_info+in_ok-push w ↦
          let grown : c.if-fits_info.pairs.items ≡ l.pairs.items ++ _ ∷ [] = ap (λ v. v.items) w.pairs-is ∙ w.in_ok-push.ensures.items in
          lists_put T dep_kind_info_view pair_view infos l.info-index info l.pairs.items _ c.if-fits_info.pairs.items (omega arith) c.info-item.is
          (c.fits_info.ensures.0 w.if-fits_info.true, refl) (λ b t. sym t.1) grown l.invariant
      | else-fits_info w ↦
          let kept : c.if-fits_info.pairs ≡ l.pairs = search rules in
          rw kept (lists_kept T dep_kind_info_view infos l.info-index info (map pair_view l.pairs.items) (omega arith) c.info-item.is
          (λ b t. let yes = c.fits_info.ensures.1 t.0 in absurd cc) l.invariant)
    ]

pub returns : goal.returns
returns c =
    let x = c.args.entry.now in
    let T = GivesBy (parent_of x) (child_of x) (dependency_view c.args.declared.now) in
    let out = map pair_view c.loop-info.pairs.items in
    let all = lists_all T dep_kind_info_view c.deref-info-items.result.now c.loop-info.info-index out (omega arith) c.loop-info.invariant in
    subst (λ infos. (b : Edge × DependencyModel) → ((k : DepKindInfoModel) × Contains (map dep_kind_info_view infos) k × T k b) ↔ Contains out b) c.deref-info-items.ensures.value all
