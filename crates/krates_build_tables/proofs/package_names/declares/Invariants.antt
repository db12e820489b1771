use Rattle.std.proofs.Common.{◌≡◌, true}
use Rattle.krates_cm.specs.Document.{dependency_view}
use Rattle.krates_cm.specs.declared.dependency.Dependency.{Dependency}
use Rattle.krates_rules.specs.DeclaredDependency.{declared_name}
use Rattle.krates_rules.proofs.Seen.{SeenBelow}
use Rattle.krates_build_tables.proofs.package_names.declares.Given as goal

-- no dependency so far is one that is looked for
abbrev pub invariant-loop-dep : goal.invariant-loop-dep
invariant-loop-dep l = SeenBelow (λ (dep : Dependency). declared_name (dependency_view dep) ≡ l.name → (l.only_optional ≡ true → dep.optional ≡ true) → ⊥) l.deps l.dep-index
