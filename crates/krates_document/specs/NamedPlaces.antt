-- The places of a list by the names of the items there.
use Rattle.std.specs.Prelude.{◌≡◌, ℕ, List, [], Some, Contains, map, slice_get}
use Rattle.std.specs.declared.cmp.Ordering.{Ordering}
use Rattle.std.specs.Cmp.Lexicographic.{slice_cmp}
use Rattle.std.specs.List.Sorted.{IsSorted}
use Rattle.std.specs.Ordering.{nat_cmp, on, then_cmp}
use Rattle.krates_cm.specs.Document.{Text}
use Rattle.krates_document.specs.FoldedNames.{folded, name_cmp}
use Rattle.krates_document.specs.declared.named_places.NamedPlace.{NamedPlace}

-- a folded name and the text of a target
abbrev pub sought_key : Text → Text → Text × Text
sought_key name target = (folded name, target)

abbrev pub key_of : NamedPlace → Text × Text
key_of x = sought_key x.name.text.now x.target.now

-- by name, and then by target
abbrev pub key_cmp : Text × Text → Text × Text → Ordering
key_cmp = then_cmp (on (λ k. k.0) (slice_cmp nat_cmp)) (on (λ k. k.1) (slice_cmp nat_cmp))

-- by name, target and place
abbrev pub place_cmp : NamedPlace → NamedPlace → Ordering
place_cmp = then_cmp (on (λ x. x.name) name_cmp) (then_cmp (on (λ x. x.target.now) (slice_cmp nat_cmp)) (on (λ x. x.place) nat_cmp))

abbrev pub AreInOrder : List NamedPlace → Type 0
AreInOrder = IsSorted place_cmp

-- the place is listed under the name, with '-' as '_', and the target
pub record StandsUnder (all : List NamedPlace) (name target : Text) (place : ℕ) : Type 0 where
  pub there : NamedPlace
  pub among : Contains all there
  pub key : key_of there ≡ sought_key name target
  pub is : there.place ≡ place

-- the text for no target
abbrev pub no_target : Text
no_target = []

-- the places are in order, and each item of the list is listed under its name and target
pub record AreNamed {A : Type 0} (name target : A → Text) (items : List A) (places : List NamedPlace) : Type 0 where
  pub sorted : AreInOrder places
  pub each : (k : ℕ) (x : A) → slice_get items k ≡ Some x → StandsUnder places (name x) (target x) k

abbrev pub places_in : List NamedPlace → List ℕ
places_in all = map (λ x. x.place) all
