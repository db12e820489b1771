use Rattle.krates_cm.specs.Document.{package_view}
use Rattle.krates_cm.specs.declared.package.Package.{Package}
use Rattle.krates_ids.specs.PackageSpecification.{SpecFits, spec_view}
use Rattle.krates_rules.proofs.Seen.{SeenBelow}
use Rattle.krates_build_tables.proofs.unanswered.names_package.Given as goal

-- the specification fits no package so far
abbrev pub invariant-loop-pkg : goal.invariant-loop-pkg
invariant-loop-pkg l = SeenBelow (λ (pkg : Package). SpecFits (spec_view l.spec) (package_view pkg) → ⊥) l.pkg-items l.pkg-index
