-- The crates of a document by number: the place of their id among all ids of the document, in order.
use Rattle.std.specs.Prelude.{◌≡◌, ◌<◌, ℕ, List, Contains, Option, None, Some, MatchOption, get_or, length, map, slice_get}
use Rattle.std.specs.Borrow.{Bor}
use Rattle.std.specs.Global.{Vec}
use Rattle.std.specs.List.{AllZip}
use Rattle.std.specs.List.Sorted.{IsStrictlySortedBy}
use Rattle.krates_ids.specs.Identity.{Identity}
use Rattle.krates_rules.specs.Admission.{IdsModel}
use Rattle.krates_rules.specs.DistinctIds.{AreDistinct, IsDoubledAmong}
use Rattle.krates_rules.specs.Facts.{Id}
use Rattle.krates_rules.specs.Referent.{id_order}
use Rattle.krates_rules.specs.Resolved.{id_of, StandsAt}
use Rattle.krates_document.specs.declared.crate_table.CrateTable.{CrateTable}

-- the ids that are borrowed
abbrev pub lent_to : List (Bor Identity) → List Identity
lent_to ids = map (λ (b : Bor Identity). b.now) ids

-- each id once, in order: the place of an id is its number
abbrev pub AreNumbered : List Id → Type 0
AreNumbered ids = IsStrictlySortedBy id_order ids

-- the number of the id, or none where it isn't among them
abbrev pub IsNumberOf : List Id → Id → Option ℕ → Type 0
IsNumberOf ids i answer = MatchOption answer ((n : ℕ) → slice_get ids n ≡ Some i → ⊥) (λ n. slice_get ids n ≡ Some i)

-- each of these has a number: an id without one isn't among them
abbrev pub Among : List Identity → List Id → Type 0
Among list ids = (i : Id) → IsNumberOf ids i None → IsNumberOf (map id_of list) i None

-- what a look-up of an id returns: a place of it in the list, or none if it isn't in the list
abbrev pub IsPlaceOf : List Identity → Id → Option ℕ → Type 0
IsPlaceOf list i answer = MatchOption answer ((place : ℕ) → StandsAt list i place → ⊥) (λ place. StandsAt list i place)

-- what a table has at a number; none where there is no number
abbrev pub at_number : List (Option ℕ) → Option ℕ → Option ℕ
at_number places None = None
at_number places (Some n) = get_or places n None

-- one of these places at which the id is in the list, or none where it is at none of them
abbrev pub IsPlaceAmong : List Identity → List ℕ → Id → Option ℕ → Type 0
IsPlaceAmong list these i answer =
    MatchOption answer ((place : ℕ) → Contains these place → StandsAt list i place → ⊥) (λ place. StandsAt list i place)

-- each id of the list has a number, and under each number is a place of its id, or none where it isn't in the list
pub record IsIndex (ids : List Id) (list : List Identity) (places : List (Option ℕ)) : Type 0 where
  pub among : Among list ids
  pub long : length places ≡ length ids
  pub each : (n : ℕ) (i : Id) → slice_get ids n ≡ Some i → IsNumberOf (map id_of list) i (get_or places n None)

-- the number of each of these ids, or none where it isn't numbered
abbrev pub AreNumbersOf : List Id → List Identity → List (Option ℕ) → Type 0
AreNumbersOf ids list numbers = AllZip (IsNumberOf ids) (map id_of list) numbers

-- a place of the number, or none where it is nowhere
abbrev pub IsWhere : List (Option ℕ) → ℕ → Option ℕ → Type 0
IsWhere numbers n answer =
    MatchOption answer ((place : ℕ) → slice_get numbers place ≡ Some (Some n) → ⊥) (λ place. slice_get numbers place ≡ Some (Some n))

-- these numbers are below the count
abbrev pub AreNumbersBelow : ℕ → List (Option ℕ) → Type 0
AreNumbersBelow count numbers = (place n : ℕ) → slice_get numbers place ≡ Some (Some n) → n < count

-- under each number below the count is a place of it among these
pub record ArePlacesOf (count : ℕ) (numbers places : List (Option ℕ)) : Type 0 where
  pub long : length places ≡ count
  pub each : (n : ℕ) → n < count → IsWhere numbers n (get_or places n None)

-- the number at the place is also before it
pub record IsDoubledAt (numbers : List (Option ℕ)) (place : ℕ) : Type 0 where
  pub number : ℕ
  pub first : ℕ
  pub earlier : first < place
  pub at_first : slice_get numbers first ≡ Some (Some number)
  pub at_second : slice_get numbers place ≡ Some (Some number)

-- a place at which a number occurs again, or none where no number does
abbrev pub TellsDoubled : List (Option ℕ) → Option ℕ → Type 0
TellsDoubled numbers answer = MatchOption answer ((place : ℕ) → IsDoubledAt numbers place → ⊥) (IsDoubledAt numbers)

-- the id at the place occurs twice
pub record HasDoubledAt (list : List Identity) (place : ℕ) : Type 0 where
  pub there : Identity
  pub at : slice_get list place ≡ Some there
  pub twice : IsDoubledAmong list (id_of there)

-- a place of an id that occurs twice, or none where no id does
abbrev pub TellsDoubledId : List Identity → Option ℕ → Type 0
TellsDoubledId list answer = MatchOption answer (AreDistinct list) (HasDoubledAt list)

abbrev pub numbers_in : Vec (Vec (Option ℕ)) → List (List (Option ℕ))
numbers_in lists = map (λ (v : Vec (Option ℕ)). v.items) lists.items

-- ids are numbered in order; packages, nodes and members are found by number, and the numbers of nodes and dependencies are known
pub record IsTable (ids : IdsModel) (t : CrateTable) : Type 0 where
  pub numbered : AreNumbered (map id_of t.ids.items)
  pub packages : IsIndex (map id_of t.ids.items) ids.packages t.packages.items
  pub nodes : IsIndex (map id_of t.ids.items) ids.nodes t.nodes.items
  pub members : IsIndex (map id_of t.ids.items) ids.members t.members.items
  pub node_numbers : AreNumbersOf (map id_of t.ids.items) ids.nodes t.node_numbers.items
  pub dep_numbers : AllZip (AreNumbersOf (map id_of t.ids.items)) ids.deps (numbers_in t.dep_numbers)
