-- Whether what the dependencies of a crate lead to has a feature.
use Rattle.std.specs.Prelude.{◌≡◌}
use Rattle.krates_cm.specs.Document.{Text, DependencyModel}
use Rattle.krates_rules.specs.DeclaredDependency.{declared_name}
use Rattle.krates_rules.specs.Facts.{Id, Edge}
use Rattle.krates_rules.specs.Resolved.{Resolved}
use Rattle.krates_units.specs.Requests.{HasFeature}
use Rattle.krates_units.specs.Resolves.{Resolves}

-- each edge that has the property, with a declared dependency, leads to a package with the feature
abbrev pub EachHas : Resolved → Text → (Edge × DependencyModel → Type 0) → Type 0
EachHas r feature P = (b : Edge × DependencyModel) → P b → HasFeature r b.0.child feature

-- the edge is one of the crate, and resolves a dependency of this name
abbrev pub ResolvesNamed : Resolved → Id → Text → Edge × DependencyModel → Type 0
ResolvesNamed r i name b = Resolves r b.0 b.1 × (b.0.parent ≡ i) × (declared_name b.1 ≡ name)
