-- What a feature reference says of a dependency's name (Cargo Book, "Features", "Dependency features").
use Rattle.std.specs.Prelude.{Bool, false, if◌then◌else◌, Option, Some, None}
use Rattle.std.specs.Str.{bytes_eq}
use Rattle.krates_cm.specs.Document.{Text}
use Rattle.krates_text.specs.FeatureReference.{Reference, krate, weak, strong, simple}
use Rattle.krates_build_tables.specs.declared.reference.FeatureReference.{FeatureReference}
use Rattle.krates_build_tables.specs.declared.reference.FeatureReference.TheVariants as references

-- a reference, by the texts of its parts
abbrev pub reference_view : FeatureReference → Reference
reference_view (references.Krate name) = krate name.now
reference_view (references.Weak name feature) = weak name.now feature.now
reference_view (references.Strong name feature) = strong name.now feature.now
reference_view (references.Simple name) = simple name.now

-- the feature of the dependency of this name that the reference names
abbrev pub feature_named : Reference → Text → Option Text
feature_named (krate d) name = None
feature_named (weak d g) name = if bytes_eq d name then Some g else None
feature_named (strong d g) name = if bytes_eq d name then Some g else None
feature_named (simple g) name = None

-- whether the reference turns the dependency of this name on, with a feature of it
abbrev pub turns_on : Reference → Text → Bool
turns_on (krate d) name = false
turns_on (weak d g) name = false
turns_on (strong d g) name = bytes_eq d name
turns_on (simple g) name = false
