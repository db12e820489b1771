-- The features of a crate, each with the references that it lists.
use Rattle.std.specs.Prelude.{◌≡◌, ◌↔◌, List, Option, Some, None, ⊤, MatchOption, Contains, map, if◌then◌else◌}
use Rattle.std.specs.Borrow.{Bor}
use Rattle.std.specs.BTreeMap.{BTreeMap, get_by}
use Rattle.std.specs.Cmp.Lexicographic.{slice_cmp}
use Rattle.std.specs.Global.{Vec}
use Rattle.std.specs.List.{AllZip}
use Rattle.std.specs.Ordering.{nat_cmp}
use Rattle.std.specs.Str.{bytes_eq}
use Rattle.krates_cm.specs.Document.{Text}
use Rattle.krates_text.specs.FeatureReference.{Reference, IsReference}
use Rattle.krates_rules.specs.Facts.{Id}
use Rattle.krates_rules.specs.Features.{HasReference}
use Rattle.krates_rules.specs.Resolved.{Resolved}
use Rattle.krates_build_tables.specs.References.{reference_view}
use Rattle.krates_build_tables.specs.declared.reference.FeatureReference.{FeatureReference}

-- what a map has under a text
abbrev pub under : {X : Type 0} → Text → BTreeMap (Bor Text) X → Option X
under {X} text m = get_by (λ k. slice_cmp nat_cmp text k.now) m

-- the references are these values, read
abbrev pub AreRead : List Text → Vec FeatureReference → Type 0
AreRead values refs = AllZip IsReference values (map reference_view refs.items)

-- the references are those of the values, where there are any
abbrev pub ReadsFeature : Option (List Text) → Option (Vec FeatureReference) → Type 0
ReadsFeature None None = ⊤
ReadsFeature None (Some refs) = ⊥
ReadsFeature (Some values) None = ⊥
ReadsFeature (Some values) (Some refs) = AreRead values refs

-- what is read so far under a name is what all features have there; or nothing is yet, and those that are left have what all have
abbrev pub Keeps : Option (List Text) → Option (List Text) → Option (Vec FeatureReference) → Type 0
Keeps all left there = MatchOption there (all ≡ left) (λ refs. ReadsFeature all (Some refs))

-- one feature more is read, unless one of its name was
abbrev pub AddsFeature : Text → List Text → BTreeMap (Bor Text) (Vec FeatureReference) → BTreeMap (Bor Text) (Vec FeatureReference) → Type 0
AddsFeature name values before after = (f : Text) (all left : Option (List Text))
    → Keeps all (if bytes_eq f name then Some values else left) (under f before) → Keeps all left (under f after)

-- the map has the features of the crate, each with the references that it lists
abbrev pub AreFeaturesOf : Resolved → Id → BTreeMap (Bor Text) (Vec FeatureReference) → Type 0
AreFeaturesOf r i m = (f : Text) (v : Reference) → HasReference r i f v
    ↔ (refs : Vec FeatureReference) × (under f m ≡ Some refs) × Contains (map reference_view refs.items) v
