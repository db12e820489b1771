-- What a search by id finds among sorted crates with their packages.
use Rattle.std.proofs.Common.{◌≡◌, ◌↔◌, ℕ, ◌<◌, List, [], ◌∷◌, length, get_or, map, true, false, ◌||◌, refl, sym, ap, ◌∙◌, inl, inr, arith, HoldsAt, Ordering, Less, Equal, Greater}
use Rattle.std.proofs.Math.Bool.{or_comm}
use Rattle.std.proofs.lemmas.List.{get_or-map, length-map}
use Rattle.std.proofs.lemmas.List.Folds.{list_any_at, list_any_none}
use Rattle.std.proofs.lemmas.List.Sorted.{searchable_from_sorted}
use Rattle.std.proofs.lemmas.Option.{slice_get_cases}
use Rattle.std.specs.List.Sorted.{IsStrictlySortedBy, IsPartitionPoint, IsNonDecreasingBy}
use Rattle.std.specs.Ordering.{is_eq, ordering_index}
use Rattle.krates_ids.specs.Identity.{Identity, id_cmp}
use Rattle.krates_rules.specs.Resolved.{id_of}
use Rattle.krates_drawing.specs.Division.{has_same, IsAmong}
use Rattle.krates_rules.proofs.Members.{Member, member_of, contains_of}
use Rattle.krates_rules.proofs.OrderedIds.{Compares, equal_of, id_of_equal, sorted_weakly, weakly_by, none_equal}
use Rattle.krates_drawing.proofs.EqualRanges.{unequal}

not_at : Compares → {X : Type 0} (key : X → Identity) (xs : List X) (x : Identity) (i : ℕ) → IsPartitionPoint (λ y. id_cmp (key y) x ≡ Less) (λ y. id_cmp (key y) x ≡ Greater) xs i
    → (k : ℕ) (d : Identity) → k < length xs → id_cmp (get_or (map key xs) k d) x ≡ Equal → ⊥
not_at o key xs x i p k d lt e = elim (slice_get_cases xs k).1 [
  | inl (y, low, got, is) ↦ none_equal (λ z. id_cmp (key z) x) xs i p k y lt (ap (λ z. id_cmp z x) (sym (get_or-map key xs k y d lt)) ∙ e)
  | inr past ↦ absurd (omega (arith, past.0))
]

-- an id that the search finds is among them
pub has_found : Compares → {X : Type 0} (key : X → Identity) (xs : List X) (x : Identity) (i : ℕ) → i < length xs → HoldsAt (λ y. id_cmp (key y) x ≡ Equal) xs i → true ≡ has_same (map key xs) x
has_found o key xs x i lt at = elim (slice_get_cases xs i).1 [
  | inl (d, low, got, is) ↦ sym (list_any_at (λ y. is_eq (id_cmp y x)) (map key xs) i x (rw length-map lt) (ap (λ y. is_eq (id_cmp y x)) (get_or-map key xs i d x lt) ∙ ap is_eq (at d)))
  | inr past ↦ absurd (omega (arith, past.0))
]

-- an id that it doesn't find isn't
pub has_none : Compares → {X : Type 0} (key : X → Identity) (xs : List X) (x : Identity) (i : ℕ) → IsStrictlySortedBy id_cmp (map key xs)
    → (IsNonDecreasingBy (λ y. ordering_index (id_cmp (key y) x)) xs → IsPartitionPoint (λ y. id_cmp (key y) x ≡ Less) (λ y. id_cmp (key y) x ≡ Greater) xs i) → false ≡ has_same (map key xs) x
has_none o key xs x i s parts =
    let rises : IsNonDecreasingBy (λ y. ordering_index (id_cmp (key y) x)) xs = searchable_from_sorted o.total key xs x (weakly_by key xs (sorted_weakly o (map key xs) s)) in
    sym (list_any_none (λ y. is_eq (id_cmp y x)) (map key xs) (λ k d lt. unequal _ (not_at o key xs x i (parts rises) k d (simp length-map at lt))))

-- ---- whether an id is among a list

among_step : Compares → (i : Identity) (ids : List Identity) (x : Identity) (r : Ordering) → id_cmp i x ≡ r → (has_same ids x ≡ true → Member (map id_of ids) (id_of x)) → (is_eq r || has_same ids x) ≡ true → Member (map id_of (i ∷ ids)) (id_of x)
among_step o i ids x Less e more h = inr (more h)
among_step o i ids x Equal e more h = inl (id_of_equal o i x e)
among_step o i ids x Greater e more h = inr (more h)

member_same : Compares → (ids : List Identity) (x : Identity) → has_same ids x ≡ true → Member (map id_of ids) (id_of x)
member_same o [] x h = absurd cc
member_same o (i ∷ ids) x h = among_step o i ids x (id_cmp i x) refl (member_same o ids x) h

same_member : Compares → (ids : List Identity) (x : Identity) → Member (map id_of ids) (id_of x) → has_same ids x ≡ true
same_member o [] x m = absurd m
same_member o (i ∷ ids) x (inl e) = ap (λ r. is_eq r || has_same ids x) (equal_of o i x e)
same_member o (i ∷ ids) x (inr m) = rw (same_member o ids x m) (or_comm (is_eq (id_cmp i x)) true)

pub is_among : Compares → (ids : List Identity) (x : Identity) → (has_same ids x ≡ true) ↔ IsAmong ids (id_of x)
is_among o ids x = (λ h. contains_of (map id_of ids) (id_of x) (member_same o ids x h), λ c. same_member o ids x (member_of (map id_of ids) (id_of x) c))
