-- Texts that begin differently compare as their beginnings do.
use Rattle.std.proofs.Common.{◌≡◌, ℕ, zero, suc, ◌<◌, [], ◌∷◌, get_or, Ordering, Less, Equal, Greater, refl, sym, ap, ◌∙◌, subst, arith, inl, inr}
use Rattle.std.proofs.lemmas.Bool.{cases_lt, cases_order}
use Rattle.std.proofs.lemmas.Cmp.{nat_list_cmp_total}
use Rattle.std.specs.Cmp.{nat_cmp_is}
use Rattle.std.specs.Cmp.Lexicographic.{slice_cmp}
use Rattle.std.specs.Ordering.{nat_cmp, ordering_reverse, ordering_then}
use Rattle.krates_cm.specs.Document.{Text}
use Rattle.krates_ids.specs.Beginning.{IsBeginning, beginning}

abbrev AreBytes : Text → Type 0
AreBytes t = (k : ℕ) → get_or t k 0 < 256

-- what begins alike has the same first bytes
same_bytes : (n : ℕ) (xs ys : Text) → AreBytes xs → AreBytes ys → beginning n xs ≡ beginning n ys → (k : ℕ) → k < n → get_or xs k 0 ≡ get_or ys k 0
same_bytes zero xs ys small tiny e k lt = absurd (omega (arith, lt))
same_bytes (suc n) xs ys small tiny e k lt =
    let x = small n in
    let y = tiny n in
    let before : beginning n xs ≡ beginning n ys = omega (arith, e, x, y) in
    let last : get_or xs n 0 ≡ get_or ys n 0 = omega (arith, e, x, y) in
    elim (cases_lt k n) [
      | inl earlier ↦ same_bytes n xs ys small tiny before k earlier
      | inr late ↦ (let here : n ≡ k = omega (arith, lt, late) in subst (λ (j : ℕ). get_or xs j 0 ≡ get_or ys j 0) here last)
    ]

-- the first place at which texts differ, and there the first has the lesser byte
record FirstLess (xs ys : Text) : Type 0 where
  place : ℕ
  same : (k : ℕ) → k < place → get_or xs k 0 ≡ get_or ys k 0
  less : get_or xs place 0 < get_or ys place 0

first_less : (n : ℕ) (xs ys : Text) → AreBytes xs → AreBytes ys → beginning n xs < beginning n ys → FirstLess xs ys
first_less zero xs ys small tiny lt = absurd (omega (arith, lt))
first_less (suc n) xs ys small tiny lt =
    let x = small n in
    let y = tiny n in
    elim (cases_lt (beginning n xs) (beginning n ys)) [
      | inl earlier ↦ first_less n xs ys small tiny earlier
      | inr le ↦ (
          let same : beginning n xs ≡ beginning n ys = omega (arith, lt, le, x, y) in
          record { place = n; same = same_bytes n xs ys small tiny same; less = omega (arith, lt, same) })
    ]

less_there : (place : ℕ) (xs ys : Text) → ((k : ℕ) → k < place → get_or xs k 0 ≡ get_or ys k 0) → get_or xs place 0 < get_or ys place 0 → slice_cmp nat_cmp xs ys ≡ Less
less_there place [] [] same less = absurd (omega (arith, less))
less_there place [] (y ∷ ys) same less = refl
less_there place (x ∷ xs) [] same less = absurd (omega (arith, less))
less_there zero (x ∷ xs) (y ∷ ys) same less = ap (λ (o : Ordering). ordering_then o (slice_cmp nat_cmp xs ys)) (sym (nat_cmp_is x y Less less))
less_there (suc place) (x ∷ xs) (y ∷ ys) same less =
    let first : x ≡ y = same 0 (omega arith) in
    let tie : nat_cmp x y ≡ Equal = sym (nat_cmp_is x y Equal first) in
    ap (λ (o : Ordering). ordering_then o (slice_cmp nat_cmp xs ys)) tie ∙ less_there place xs ys (λ k lt. same (suc k) (omega (arith, lt))) less

less_by_beginning : (xs ys : Text) (m n : ℕ) → IsBeginning xs m → IsBeginning ys n → m < n → slice_cmp nat_cmp xs ys ≡ Less
less_by_beginning xs ys m n at_m at_n lt =
    let below : beginning 8 xs < beginning 8 ys = omega (arith, lt, at_m.is, at_n.is) in
    let w = first_less 8 xs ys at_m.bytes at_n.bytes below in
    less_there w.place xs ys w.same w.less

-- where the beginnings differ, they decide
pub decided_by_beginning : (xs ys : Text) (m n : ℕ) (o : Ordering) → IsBeginning xs m → IsBeginning ys n → o ≡ nat_cmp m n → (o ≡ Equal → ⊥) → o ≡ slice_cmp nat_cmp xs ys
decided_by_beginning xs ys m n o at_m at_n is unequal = elim (cases_order m n) [
  | inl e ↦ absurd (unequal (is ∙ sym (nat_cmp_is m n Equal e)))
  | inr r ↦ elim r [
    | inl lt ↦ is ∙ sym (nat_cmp_is m n Less lt) ∙ sym (less_by_beginning xs ys m n at_m at_n lt)
    | inr lt ↦ (
        let less = less_by_beginning ys xs n m at_n at_m lt in
        is ∙ sym (nat_cmp_is m n Greater lt) ∙ sym (nat_list_cmp_total.antisymm xs ys ∙ ap ordering_reverse less))
  ]
]
