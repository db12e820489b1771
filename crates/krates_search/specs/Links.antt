-- What is kept for each dependency of each node: whether its edges have been asked for, whether one is kept, and which of its
-- features wait for one.
use Rattle.std.specs.Prelude.{◌≡◌, ◌↔◌, ◌⊎◌, ℕ, List, [], MatchOption, Option, None, Some, false, true, All, Contains, length, map, slice_get}
use Rattle.krates_cm.specs.Document.{Text, NodeModel}
use Rattle.krates_rules.specs.Facts.{Id}
use Rattle.krates_rules.specs.Resolved.{Resolved, DepAt}
use Rattle.krates_search.specs.declared.links.Link.{Link}
use Rattle.krates_search.specs.declared.links.Waiting.{Waiting}
use Rattle.krates_search.specs.declared.links.Links.{Links}

-- the link of a node's dependency
pub record LinkAt (links : Links) (place index : ℕ) (link : Link) : Type 0 where
  pub of_node : List Link
  pub at : slice_get (map (λ v. v.items) links.of_nodes.items) place ≡ Some of_node
  pub here : slice_get of_node index ≡ Some link

-- an edge by this dependency is kept, the first of them by the step with this number
pub record IsMarkedBy (links : Links) (place index step : ℕ) : Type 0 where
  pub link : Link
  pub at : LinkAt links place index link
  pub kept : link.kept ≡ Some step

-- an edge by this dependency is kept
abbrev pub IsMarked : Links → ℕ → ℕ → Type 0
IsMarked links place index = (step : ℕ) × IsMarkedBy links place index step

-- the answer is the step by which the first edge is kept, or none is
abbrev pub TellsMark : Links → ℕ → ℕ → Option ℕ → Type 0
TellsMark links place index answer = MatchOption answer (IsMarked links place index → ⊥) (IsMarkedBy links place index)

-- all edges by this dependency have been asked for
pub record WasAsked (links : Links) (place index : ℕ) : Type 0 where
  pub link : Link
  pub at : LinkAt links place index link
  pub is_asked : link.is_asked ≡ true

-- the feature waits for a kept edge by this dependency
pub record IsWaiter (links : Links) (place index : ℕ) (waiter : Waiting) : Type 0 where
  pub link : Link
  pub at : LinkAt links place index link
  pub among : Contains link.waiting.items waiter

-- a feature of this name waits for a kept edge by this dependency
pub record Waits (links : Links) (place index : ℕ) (name : Text) : Type 0 where
  pub waiter : Waiting
  pub waits : IsWaiter links place index waiter
  pub named : waiter.name.now ≡ name

-- there is a link for the dependency of the node at these places
abbrev pub HasLink : Links → ℕ → ℕ → Type 0
HasLink links place index = (link : Link) × LinkAt links place index link

-- there is one for each dependency of each node
abbrev pub HasLinks : Resolved → Links → Type 0
HasLinks r links = (parent child : Id) (place index : ℕ) → DepAt r parent child place index → HasLink links place index

-- no edge by the dependency was asked for or is kept, and none of its features waits
pub record IsNewLink (link : Link) : Type 0 where
  pub unasked : link.is_asked ≡ false
  pub unmarked : link.kept ≡ None
  pub none_waits : link.waiting.items ≡ []

-- there is a link for each dependency of the node, and nothing is kept or waits yet
pub record AreNewLinks (n : NodeModel) (links : List Link) : Type 0 where
  pub each : length links ≡ length n.deps
  pub new : All IsNewLink links

-- nothing is asked for, is kept or waits yet
pub record AreNew (links : Links) : Type 0 where
  pub unasked : (place index : ℕ) → WasAsked links place index → ⊥
  pub unmarked : (place index : ℕ) → IsMarked links place index → ⊥
  pub none_waits : (place index : ℕ) (g : Text) → Waits links place index g → ⊥

-- the edges by the dependency have been asked for now, and nothing else is changed
pub record NotesAsked (old new : Links) (place index : ℕ) : Type 0 where
  pub asked : WasAsked new place index
  pub stays : (p i : ℕ) → WasAsked old p i → WasAsked new p i
  pub from : (p i : ℕ) → WasAsked new p i → WasAsked old p i ⊎ ((p ≡ place) × (i ≡ index))
  pub marks : (p i n : ℕ) → IsMarkedBy old p i n ↔ IsMarkedBy new p i n
  pub waits : (p i : ℕ) (w : Waiting) → IsWaiter old p i w ↔ IsWaiter new p i w
  pub links : (p i : ℕ) → HasLink old p i → HasLink new p i

-- the dependency is marked by the step now, none of its features waits any more but these did, and nothing else is changed
pub record HasMarked (old new : Links) (place index step : ℕ) (waiters : List Waiting) : Type 0 where
  pub marked : IsMarkedBy new place index step
  pub stays : (p i : ℕ) → IsMarked old p i → IsMarked new p i
  pub from : (p i n : ℕ) → IsMarkedBy new p i n → IsMarkedBy old p i n ⊎ ((p ≡ place) × (i ≡ index) × (n ≡ step))
  pub waits : (p i : ℕ) (w : Waiting) → IsWaiter old p i w → IsWaiter new p i w ⊎ ((p ≡ place) × (i ≡ index) × Contains waiters w)
  pub waited : (p i : ℕ) (w : Waiting) → IsWaiter new p i w → IsWaiter old p i w
  pub took : (w : Waiting) → Contains waiters w → IsWaiter old place index w
  pub none_left : (w : Waiting) → IsWaiter new place index w → ⊥
  pub asked : (p i : ℕ) → WasAsked new p i → WasAsked old p i
  pub links : (p i : ℕ) → HasLink old p i → HasLink new p i

-- one more feature waits, and nothing else is changed
pub record HasWaiter (old new : Links) (place index : ℕ) (waiter : Waiting) : Type 0 where
  pub waits : IsWaiter new place index waiter
  pub stays : (p i : ℕ) (w : Waiting) → IsWaiter old p i w → IsWaiter new p i w
  pub from : (p i : ℕ) (w : Waiting) → IsWaiter new p i w → IsWaiter old p i w ⊎ ((p ≡ place) × (i ≡ index) × (w ≡ waiter))
  pub marks : (p i n : ℕ) → IsMarkedBy old p i n ↔ IsMarkedBy new p i n
  pub asked : (p i : ℕ) → WasAsked new p i → WasAsked old p i
  pub links : (p i : ℕ) → HasLink old p i → HasLink new p i
