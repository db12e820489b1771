-- How enabled features are put into sets, one for each crate, by the numbers of the crates.
use Rattle.std.specs.Prelude.{◌≡◌, ◌↔◌, ◌⊎◌, ℕ, List, Contains, String, map}
use Rattle.std.specs.BTreeSet.{BTreeSet}
use Rattle.std.specs.declared.alloc.Global.{Global}
use Rattle.krates_cm.specs.Document.{Text, text_view}
use Rattle.krates_selection.specs.declared.selection.EnabledFeature.{EnabledFeature}
use Rattle.krates_queries.specs.Kept.{names_in_each, IsNameAt}

-- a feature as the number of its crate and its name
abbrev pub numbered : EnabledFeature → ℕ × Text
numbered feature = (feature.krate, text_view feature.name)

-- the name is in the set of the crate exactly if the feature is one of these
abbrev pub AreEnabledSets : List EnabledFeature → List (BTreeSet (String Global)) → Type 0
AreEnabledSets features sets = (n : ℕ) (f : Text) → IsNameAt (names_in_each sets) n f ↔ Contains (map numbered features) (n, f)

-- the sets have, besides what was in them before, the feature
abbrev pub IsPut : EnabledFeature → List (BTreeSet (String Global)) → List (BTreeSet (String Global)) → Type 0
IsPut feature before after = (n : ℕ) (f : Text) → IsNameAt (names_in_each after) n f ↔ (IsNameAt (names_in_each before) n f ⊎ (numbered feature ≡ (n, f)))
