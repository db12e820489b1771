-- What a feature reference says of the dependencies of its crate (Cargo Book, "Features", "Dependency features").
use Rattle.std.specs.Prelude.{◌≡◌}
use Rattle.krates_cm.specs.Document.{Text}
use Rattle.krates_text.specs.FeatureReference.{Reference, krate, weak, strong, simple}

-- the reference names the dependency
abbrev pub NamesDependency : Reference → Text → Type 0
NamesDependency (simple f) dep = ⊥
NamesDependency (krate d) dep = dep ≡ d
NamesDependency (strong d f) dep = dep ≡ d
NamesDependency (weak d f) dep = dep ≡ d

-- the reference names the dependency and a feature of it
abbrev pub NamesFeatureOf : Reference → Text → Text → Type 0
NamesFeatureOf (simple f) dep feature = ⊥
NamesFeatureOf (krate d) dep feature = ⊥
NamesFeatureOf (strong d f) dep feature = (dep ≡ d) × (feature ≡ f)
NamesFeatureOf (weak d f) dep feature = (dep ≡ d) × (feature ≡ f)
