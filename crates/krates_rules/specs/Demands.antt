-- Which references of a feature require a dependency.
use Rattle.std.specs.Prelude.{◌≡◌}
use Rattle.krates_cm.specs.Document.{Text}
use Rattle.krates_text.specs.FeatureReference.{Reference, krate, weak, strong, simple}

-- the reference requires the edges to the dependency of this name; a weak reference doesn't
abbrev pub Demands : Reference → Text → Type 0
Demands (simple f) dep = ⊥
Demands (krate c) dep = dep ≡ c
Demands (strong c f) dep = dep ≡ c
Demands (weak c f) dep = ⊥
