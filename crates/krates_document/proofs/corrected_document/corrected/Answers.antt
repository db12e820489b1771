use Rattle.std.proofs.Common.{◌≡◌, List, length, rules, arith, refl, sym, ap, subst, ◌∙◌}
use Rattle.std.proofs.lemmas.List.{with_items_is}
use Rattle.std.specs.List.{AllZip}
use Rattle.krates_cm.specs.declared.package.Package.{Package}
use Rattle.krates_document.specs.CorrectedDocument.{IsCorrectedPackage}
use Rattle.krates_document.proofs.ChangedPlaces.{none_so_far, one_more_at, all_changed}
use Rattle.krates_document.proofs.corrected_document.corrected.Goals as goal

pub loop-pkg-init : goal.loop-pkg-init
loop-pkg-init c = none_so_far (IsCorrectedPackage c.args.index.now.answer) _ _ c.deref_mut-pkg-items.ensures.value

pub loop-pkg-preserved : goal.loop-pkg-preserved
loop-pkg-preserved c =
    one_more_at (IsCorrectedPackage c.args.index.now.answer) c.loop-pkg.pkg-index c.args.metadata.packages.items c.loop-pkg.pkg-items c.pkg-item.result c.correct.new.pkg c.loop-pkg.invariant
    (search rules) (record { corrected = c.in_ok-correct.ensures.corrected; nothing_else = c.in_ok-correct.ensures.nothing_else })

pub returns : goal.returns
returns c =
    let same_length : length c.loop-pkg.pkg-items ≡ c.args.metadata.packages.len = c.loop-pkg.auto.pkg-items ∙ ap length c.deref_mut-pkg-items.ensures.value ∙ sym c.args.metadata.packages.ok.0 in
    let changed = all_changed (IsCorrectedPackage c.args.index.now.answer) c.loop-pkg.pkg-index c.args.metadata.packages.items c.loop-pkg.pkg-items c.loop-pkg.invariant (omega (arith, c.loop-pkg-test.false, c.loop-pkg.auto.pkg-items)) in
    record {
      packages = subst (λ (items : List Package). AllZip (IsCorrectedPackage c.args.index.now.answer) c.args.metadata.packages.items items) (sym (with_items_is c.args.metadata.packages c.loop-pkg.pkg-items same_length)) changed;
      nothing_else = refl;
    }
