-- The numbers of crates that are in the order of their ids.
use Rattle.std.proofs.Common.{◌≡◌, ◌<◌, ℕ, List, inl, inr, get_or, length, Equal, sym, ◌∙◌, arith}
use Rattle.std.proofs.lemmas.Bool.{cases_order}
use Rattle.std.proofs.lemmas.List.{get_or-map}
use Rattle.std.proofs.lemmas.Map.Keys.{Less-from_sorted}
use Rattle.std.specs.List.Sorted.{IsStrictlySortedBy}
use Rattle.krates_rules.proofs.DistinctIds.{OrderTellsSame, same_of}
use Rattle.krates_ids.specs.Identity.{Identity, empty_identity, id_cmp}
use Rattle.krates_selection.specs.Selection.{id_at, no_id}
use Rattle.krates_rules.specs.Resolved.{id_of}

-- the id of a number is that of the crate at that place
pub seen_id : (kids : List Identity) (n : ℕ) → n < length kids → id_at kids n ≡ id_of (get_or kids n empty_identity)
seen_id kids n lt = get_or-map id_of kids n empty_identity no_id lt

apart : OrderTellsSame → (kids : List Identity) → IsStrictlySortedBy id_cmp kids → (i j : ℕ) → i < j → j < length kids → id_at kids i ≡ id_at kids j → ⊥
apart tells kids sorted i j low lt e =
    let a = get_or kids i empty_identity in
    let b = get_or kids j empty_identity in
    let less = Less-from_sorted id_cmp kids i j empty_identity sorted low lt in
    let same : id_of a ≡ id_of b = sym (seen_id kids i (omega (arith, low, lt))) ∙ e ∙ seen_id kids j lt in
    let equal : id_cmp a b ≡ Equal = (tells a b).1 (same_of a b same) in
    cc (less, equal)

-- crates with the same id have the same number
pub one_number : OrderTellsSame → (kids : List Identity) → IsStrictlySortedBy id_cmp kids → (i j : ℕ) → i < length kids → j < length kids → id_at kids i ≡ id_at kids j → i ≡ j
one_number tells kids sorted i j a b e = elim (cases_order i j) [
  | inl same ↦ same
  | inr r ↦ elim r [ inl low ↦ absurd (apart tells kids sorted i j low b e) | inr low ↦ absurd (apart tells kids sorted j i low a (sym e)) ]
]
