use Rattle.std.proofs.Common.{◌≡◌}
use Rattle.krates_cm.specs.Document.{dependency_view}
use Rattle.krates_cm.specs.declared.dependency.Dependency.{Dependency}
use Rattle.krates_questions.specs.Lookup.{resolved_view}
use Rattle.krates_rules.specs.DeclaredDependency.{declared_name}
use Rattle.krates_rules.specs.Resolved.{id_of}
use Rattle.krates_rules.proofs.Seen.{SeenBelow}
use Rattle.krates_build_tables.specs.Leading.{EachHas}
use Rattle.krates_build_tables.specs.Pairs.{PairsFor}
use Rattle.krates_build_tables.proofs.leading.each_named_has.Given as goal

-- what the dependencies of the name lead to so far has the feature
abbrev pub invariant-loop-declared : goal.invariant-loop-declared
invariant-loop-declared l =
    SeenBelow (λ (d : Dependency). declared_name (dependency_view d) ≡ l.name → EachHas (resolved_view l.document) l.feature (PairsFor (resolved_view l.document) (id_of l.krate) (dependency_view d))) l.declared-items l.declared-index
