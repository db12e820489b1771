-- The features that nodes list, in the order of the document: their numbers, how they compare, and the references that they have.
use Rattle.std.specs.Prelude.{ℕ, suc, List, [], ◌∷◌, ◌++◌, map, Bool, ◌==◌, ◌≡◌, ◌≤◌, String, Option, Some, MatchOption, slice_get, ⊤, ◌↔◌, Contains}
use Rattle.krates_cm.specs.Document.{Text, NodeModel, text_view, FeaturesModel, PackageModel}
use Rattle.krates_rules.specs.Resolved.{Resolved, NodeAt, HasPackage}
use Rattle.std.specs.declared.cmp.Ordering.{Ordering}
use Rattle.std.specs.Cmp.Lexicographic.{slice_cmp, pointwise}
use Rattle.std.specs.Ordering.{nat_cmp, on, then_cmp, eq_of_both}
use Rattle.krates_questions.specs.declared.feature_table.ListedFeature.{ListedFeature}
use Rattle.std.specs.BTreeMap.{get}
use Rattle.std.specs.declared.alloc.Global.{Global}
use Rattle.krates_questions.specs.declared.feature_table.FeatureTable.{FeatureTable}
use Rattle.krates_rules.specs.Facts.{Id}
use Rattle.krates_rules.specs.Features.{LacksFeature, ListsFeature, HasReference}
use Rattle.std.specs.Option.{unwrap_or}
use Rattle.krates_ids.specs.Correction.{named}
use Rattle.krates_text.specs.FeatureReference.{Reference, IsReference}

-- those of the node at this place, each with the place
abbrev pub features_of_node : ℕ → List Text → List (ℕ × Text)
features_of_node place names = map (λ f. (place, f)) names

-- those of all nodes, of which the first is at this place
abbrev pub features_from : ℕ → List NodeModel → List (ℕ × Text)
features_from place [] = []
features_from place (n ∷ ns) = features_of_node place n.features ++ features_from (suc place) ns

abbrev pub listed_features : Resolved → List (ℕ × Text)
listed_features r = features_from 0 r.graph.nodes

-- these are the features that the crate lists whose node is at the place
abbrev pub AreFeaturesAt : Resolved → ℕ → List Text → Type 0
AreFeaturesAt r place names = (i : Id) → NodeAt r i place → (f : Text) → ListsFeature r i f ↔ Contains names f

-- ---- how they compare: by the place of their node, then by name

abbrev pub same_listed : ListedFeature → ListedFeature → Bool
same_listed = eq_of_both (on (λ x. x.place.index) ◌==◌) (on (λ x. x.name.now) (pointwise ◌==◌))

abbrev pub listed_cmp : ListedFeature → ListedFeature → Ordering
listed_cmp = then_cmp (on (λ x. x.place.index) nat_cmp) (on (λ x. x.name.now) (slice_cmp nat_cmp))

-- ---- the table of their numbers

abbrev pub listed_view : ListedFeature → ℕ × Text
listed_view x = (x.place.index, x.name.now)

abbrev pub listed_in : FeatureTable → List (ℕ × Text)
listed_in t = map listed_view t.listed.items

-- the feature has the number, and no greater one
pub record IsLastAt (all : List (ℕ × Text)) (x : ℕ × Text) (n : ℕ) : Type 0 where
  pub at : slice_get all n ≡ Some x
  pub last : (m : ℕ) → slice_get all m ≡ Some x → m ≤ n

-- the greatest number of the feature, or none where it isn't listed
abbrev pub IsNumberOf : List (ℕ × Text) → ℕ × Text → Option ℕ → Type 0
IsNumberOf all x answer = MatchOption answer ((n : ℕ) → slice_get all n ≡ Some x → ⊥) (IsLastAt all x)

-- the table has a number of each feature that it lists, and of no other
abbrev pub AreNumbered : FeatureTable → Type 0
AreNumbered t = (x : ListedFeature) → IsNumberOf (listed_in t) (listed_view x) (get listed_cmp t.numbers x)

-- these features of the node at the place are listed after the others
abbrev pub ListsMore : List ListedFeature → List ListedFeature → ℕ → List (String Global) → Type 0
ListsMore old new place features = map listed_view new ≡ map listed_view old ++ features_of_node place (map text_view features)

-- ---- numbers of the features of crates

-- the number is that of this feature of the crate
pub record FeatureAt (r : Resolved) (i : Id) (f : Text) (number : ℕ) : Type 0 where
  pub place : ℕ
  pub at : slice_get (listed_features r) number ≡ Some (place, f)
  pub node : NodeAt r i place

-- it is the greatest number of its feature, which counts as the feature's own
abbrev pub IsOwn : Resolved → ℕ → Type 0
IsOwn r number =
    (other : ℕ) (feature : ℕ × Text) → slice_get (listed_features r) number ≡ Some feature
    → slice_get (listed_features r) other ≡ Some feature → other ≤ number

-- the number that was returned is its feature's own
abbrev pub TellsOwn : Resolved → Option ℕ → Type 0
TellsOwn r answer = MatchOption answer ⊤ (IsOwn r)

-- a number of the feature of the node at the place, or none where the crate doesn't list it
abbrev pub TellsNumber : Resolved → ℕ → Text → Option ℕ → Type 0
TellsNumber r place f answer = (i : Id) → NodeAt r i place → MatchOption answer (LacksFeature r i f) (FeatureAt r i f)

-- ---- the references of a feature

-- one of the texts is this reference
pub record IsAmongValues (values : List Text) (reference : Reference) : Type 0 where
  pub text : Text
  pub among : Contains values text
  pub is : IsReference text reference

-- the references of the feature are those that these texts are
abbrev pub AreValuesOf : Resolved → Id → Text → List Text → Type 0
AreValuesOf r i f values = (reference : Reference) → HasReference r i f reference ↔ IsAmongValues values reference

-- the values of the feature, or none if there is no such feature
abbrev pub values_of : FeaturesModel → Text → List Text
values_of features name = unwrap_or (named features name) []

-- these are the values that the crate's package has under the feature's name
abbrev pub AreNamed : Resolved → Id → Text → List Text → Type 0
AreNamed r i f values = (pkg : PackageModel) → HasPackage r i pkg → values_of pkg.features f ≡ values
