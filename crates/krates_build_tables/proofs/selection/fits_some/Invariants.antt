use Rattle.krates_cm.specs.Document.{package_view}
use Rattle.krates_ids.specs.PackageSpecification.{SpecFits, spec_view}
use Rattle.krates_ids.specs.declared.pkgspec.PkgSpec.{PkgSpec}
use Rattle.krates_rules.proofs.Seen.{SeenBelow}
use Rattle.krates_build_tables.proofs.selection.fits_some.Given as goal

-- no specification so far fits
abbrev pub invariant-loop-spec : goal.invariant-loop-spec
invariant-loop-spec l = SeenBelow (λ (spec : PkgSpec). SpecFits (spec_view spec) (package_view l.pkg) → ⊥) l.specs l.spec-index
