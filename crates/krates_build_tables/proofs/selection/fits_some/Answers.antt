use Rattle.std.proofs.Common.{arith, refl}
use Rattle.krates_cm.specs.Document.{package_view}
use Rattle.krates_ids.specs.PackageSpecification.{Specification, SpecFits, spec_view}
use Rattle.krates_rules.proofs.Seen.{each_seen}
use Rattle.krates_build_tables.proofs.selection.fits_some.Goals as goal

pub returns : goal.returns
returns c =
    let pkg = package_view c.args.pkg.now in (
      λ t. absurd cc,
      λ h. absurd (each_seen spec_view (λ (spec : Specification). SpecFits spec pkg → ⊥) c.args.specs.now c.args.specs.now c.loop-spec.spec-index refl (omega arith) c.loop-spec.invariant h.spec h.among h.fits),
    )
