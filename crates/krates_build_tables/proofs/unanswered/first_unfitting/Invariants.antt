use Rattle.krates_ids.specs.PackageSpecification.{spec_view}
use Rattle.krates_ids.specs.declared.pkgspec.PkgSpec.{PkgSpec}
use Rattle.krates_questions.specs.Lookup.{resolved_view}
use Rattle.krates_rules.proofs.Seen.{SeenBelow}
use Rattle.krates_units.specs.Answered.{NamesPackage}
use Rattle.krates_build_tables.proofs.unanswered.first_unfitting.Given as goal

-- each specification so far fits a package
abbrev pub invariant-loop-spec : goal.invariant-loop-spec
invariant-loop-spec l = SeenBelow (λ (spec : PkgSpec). NamesPackage (resolved_view l.document) (spec_view spec)) l.specs l.spec-index
