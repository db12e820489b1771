use Rattle.std.proofs.Common.{◌≡◌, ap, arith, ◌∙◌}
use Rattle.krates_cm.specs.Document.{PackageModel, package_view}
use Rattle.krates_cm.specs.declared.metadata.Metadata.{Metadata}
use Rattle.krates_ids.specs.PackageSpecification.{SpecFits, spec_view}
use Rattle.krates_rules.proofs.Seen.{each_seen}
use Rattle.krates_build_tables.proofs.unanswered.names_package.Goals as goal

pub returns : goal.returns
returns c =
    let spec = spec_view c.args.spec.now in
    let packages = c.args.document.now.metadata.now.packages.items in
    let same : c.deref-pkg-items.result.now ≡ packages = c.deref-pkg-items.ensures.value ∙ ap (λ (m : Metadata). m.packages.items) c.metadata.ensures in (
      λ t. absurd cc,
      λ h. absurd (each_seen package_view (λ (pkg : PackageModel). SpecFits spec pkg → ⊥) c.deref-pkg-items.result.now packages c.loop-pkg.pkg-index same (omega arith) c.loop-pkg.invariant h.pkg h.among h.fits),
    )
