-- The kept crates of a document, by the numbers of its crates.
use Rattle.std.specs.Prelude.{◌≡◌, ℕ, List, Option, Some, length, map, slice_get}
use Rattle.std.specs.List.{filter_map}
use Rattle.std.specs.Option.{option_map}
use Rattle.std.specs.List.Sorted.{IsPermutation, IsStrictlySortedBy}
use Rattle.krates_ids.specs.Identity.{Identity, id_cmp}
use Rattle.krates_rules.specs.Facts.{Id}
use Rattle.krates_rules.specs.Resolved.{NodeAt, id_of}
use Rattle.krates_document.specs.CrateTable.{AreNumbersOf}
use Rattle.krates_questions.specs.Lookup.{IsNumberIn, resolved_view}
use Rattle.krates_questions.specs.declared.lookup.Lookup.{Lookup}
use Rattle.krates_questions.specs.declared.lookup.NodePlace.{NodePlace}

-- the ids are those at the places
abbrev pub AreAt : List Identity → List ℕ → List Identity → Type 0
AreAt ids places kids = map (slice_get ids) places ≡ map (λ k. Some k) kids

-- by the numbers of their crates, these places of nodes
pub record AreNodePlaces (d : Lookup) (places : List ℕ) (kept : List (Option NodePlace)) : Type 0 where
  pub long : length kept ≡ length d.ids.now.table.ids.items
  pub numbered : (n : ℕ) (p : NodePlace) (i : Id) → slice_get kept n ≡ Some (Some p) → NodeAt (resolved_view d) i p.index → IsNumberIn d i (Some n)
  pub whole : IsPermutation places (filter_map (option_map (λ (p : NodePlace). p.index)) kept)

-- the ids of the nodes at these places, in order, and the number among them of each crate of the document
pub record AreKept (d : Lookup) (places : List ℕ) (kids : List Identity) (numbers : List (Option ℕ)) : Type 0 where
  pub order : List ℕ
  pub whole : IsPermutation places order
  pub krates : AreAt d.ids.now.nodes.items order kids
  pub ascending : IsStrictlySortedBy id_cmp kids
  pub numbered : AreNumbersOf (map id_of kids) d.ids.now.table.ids.items numbers
