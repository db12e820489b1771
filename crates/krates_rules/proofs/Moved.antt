-- A text that occurs twice in a list occurs twice in any permutation of it.
use Rattle.std.proofs.Common.{◌≡◌, ◌≢◌, ◌⊎◌, inl, inr, ℕ, ◌<◌, List, length, get_or, Some, slice_get, swap, refl, sym, ap, ◌∙◌, arith, IsPermutation}
use Rattle.std.proofs.lemmas.Bool.{cases_eq, cases_order}
use Rattle.std.proofs.lemmas.List.Edits.{Swapped, swapped_from_swap}
use Rattle.std.proofs.lemmas.List.Sorted.{IsPermutation-keeps, IsPermutation-swap, length_permutation}
use Rattle.std.proofs.lemmas.Option.{slice_get-get_or, slice_get_within, get_or_from_slice_get}
use Rattle.krates_cm.specs.Document.{Text}
use Rattle.krates_rules.specs.Admission.{IsDoubledIn}
use Rattle.krates_rules.specs.Facts.{Id}
use Rattle.krates_rules.specs.Resolved.{ReadsAs}

-- where the element at a place goes when the elements at two places are swapped
abbrev Goes : ℕ → ℕ → ℕ → ℕ → Type 0
Goes i j k m = ((k ≡ i) × (m ≡ j)) ⊎ (((k ≢ i) × (k ≡ j) × (m ≡ i)) ⊎ ((k ≢ i) × (k ≢ j) × (m ≡ k)))

goes : (i j k : ℕ) → (m : ℕ) × Goes i j k m
goes i j k = elim (cases_eq k i) [
  | inl a ↦ (j, inl (a, refl))
  | inr a ↦ elim (cases_eq k j) [
    | inl b ↦ (i, inr (inl (a, b, refl)))
    | inr b ↦ (k, inr (inr (a, b, refl)))
  ]
]

-- no two elements go to one place
goes_apart : (i j k m l n : ℕ) → Goes i j k m → Goes i j l n → m ≡ n → k ≡ l
goes_apart i j k m l n (inl a) (inl b) e = omega (arith, a.0, b.0)
goes_apart i j k m l n (inl a) (inr (inl b)) e = absurd (b.0 (omega (arith, a.1, b.1, b.2, e)))
goes_apart i j k m l n (inl a) (inr (inr b)) e = absurd (b.1 (omega (arith, a.1, b.2, e)))
goes_apart i j k m l n (inr (inl a)) (inl b) e = absurd (a.0 (omega (arith, a.1, a.2, b.1, e)))
goes_apart i j k m l n (inr (inl a)) (inr (inl b)) e = omega (arith, a.1, b.1)
goes_apart i j k m l n (inr (inl a)) (inr (inr b)) e = absurd (b.0 (omega (arith, a.2, b.2, e)))
goes_apart i j k m l n (inr (inr a)) (inl b) e = absurd (a.1 (omega (arith, a.2, b.1, e)))
goes_apart i j k m l n (inr (inr a)) (inr (inl b)) e = absurd (a.0 (omega (arith, a.2, b.2, e)))
goes_apart i j k m l n (inr (inr a)) (inr (inr b)) e = omega (arith, a.2, b.2, e)

-- each element is then at its new place
gone : {X : Type 0} (xs : List X) (i j k m : ℕ) (x : X) → i < length xs → j < length xs → Goes i j k m
    → slice_get xs k ≡ Some x → slice_get (swap xs i j) m ≡ Some x
gone xs i j k m x p q g here = slice_get-get_or (swap xs i j) m x (within g) ∙ ap (λ y. Some y) (moved g ∙ is)
  where
    swapped : Swapped (λ n. get_or xs n x) (λ n. get_or (swap xs i j) n x) i j
    swapped = swapped_from_swap xs (swap xs i j) i j x p q refl

    long : length (swap xs i j) ≡ length xs
    long = length_permutation xs (swap xs i j) (IsPermutation-swap xs (swap xs i j) i j p q refl)

    is : get_or xs k x ≡ x
    is = get_or_from_slice_get xs k x x here

    lt : k < length xs
    lt = slice_get_within xs k x here

    within : Goes i j k m → m < length (swap xs i j)
    within (inl a) = omega (arith, a.1, long)
    within (inr (inl a)) = omega (arith, a.2, long)
    within (inr (inr a)) = omega (arith, a.2, long, lt)

    moved : Goes i j k m → get_or (swap xs i j) m x ≡ get_or xs k x
    moved (inl a) = ap (λ n. get_or (swap xs i j) n x) a.1 ∙ swapped.1 ∙ ap (λ n. get_or xs n x) (sym a.0)
    moved (inr (inl a)) = ap (λ n. get_or (swap xs i j) n x) a.2 ∙ swapped.0 ∙ ap (λ n. get_or xs n x) (sym a.1)
    moved (inr (inr a)) = ap (λ n. get_or (swap xs i j) n x) a.2 ∙ swapped.2 k a.0 a.1

-- two elements at different places
record StandApart {X : Type 0} (xs : List X) (a b : X) : Type 0 where
  one : ℕ
  other : ℕ
  apart : one ≢ other
  at_one : slice_get xs one ≡ Some a
  at_other : slice_get xs other ≡ Some b

apart_swapped : {X : Type 0} (xs : List X) (i j : ℕ) (a b : X) → i < length xs → j < length xs
    → StandApart xs a b → StandApart (swap xs i j) a b
apart_swapped xs i j a b p q s =
    let m = goes i j s.one in
    let n = goes i j s.other in
    record {
      one = m.0;
      other = n.0;
      apart = λ e. s.apart (goes_apart i j s.one m.0 s.other n.0 m.1 n.1 e);
      at_one = gone xs i j s.one m.0 a p q m.1 s.at_one;
      at_other = gone xs i j s.other n.0 b p q n.1 s.at_other;
    }

apart_moved : {X : Type 0} (xs ys : List X) (a b : X) → IsPermutation xs ys → StandApart xs a b → StandApart ys a b
apart_moved xs ys a b moved s =
    IsPermutation-keeps xs (λ zs. StandApart zs a b) s (λ zs i j p q t. apart_swapped zs i j a b p q t) ys moved

as_apart : (xs : List Text) (id : Id) → (t : IsDoubledIn xs id) → StandApart xs t.one t.other
as_apart xs id t = record {
  one = t.first;
  other = t.second;
  apart = λ e. omega (arith, t.apart, e);
  at_one = t.at_first;
  at_other = t.at_second;
}

twice : (xs : List Text) (id : Id) (j k : ℕ) (a b : Text) → j < k → slice_get xs j ≡ Some a → slice_get xs k ≡ Some b
    → ReadsAs a id → ReadsAs b id → IsDoubledIn xs id
twice xs id j k a b lt at_first at_second one other = record {
  first = j;
  second = k;
  apart = lt;
  one = a;
  other = b;
  at_first = at_first;
  at_second = at_second;
  one_holds = one;
  other_holds = other;
}

-- what occurs twice still does
pub twice_moved : (xs ys : List Text) (id : Id) → IsPermutation xs ys → IsDoubledIn xs id → IsDoubledIn ys id
twice_moved xs ys id moved t =
    let s = apart_moved xs ys t.one t.other moved (as_apart xs id t) in
    elim (cases_order s.one s.other) [
      | inl e ↦ absurd (s.apart e)
      | inr r ↦ elim r [
        | inl lt ↦ twice ys id s.one s.other t.one t.other lt s.at_one s.at_other t.one_holds t.other_holds
        | inr lt ↦ twice ys id s.other s.one t.other t.one lt s.at_other s.at_one t.other_holds t.one_holds
      ]
    ]
