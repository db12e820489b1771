-- Ascending lists of exactly the numbers that have a property.
use Rattle.std.proofs.Common.{◌≡◌, ◌⊎◌, ◌↔◌, ℕ, suc, ◌+◌, ◌<◌, ◌==◌, Bool, true, cond, List, [], ◌∷◌, ◌++◌, length, get_or, All, Contains, count_by, refl, ap, ◌∙◌, subst, inl, inr, arith}
use Rattle.std.proofs.lemmas.Bool.{cases_eq, cases_lt, false_from_ne_true}
use Rattle.std.proofs.lemmas.Bool.Decides.{Decides-eqb}
use Rattle.std.proofs.lemmas.List.{get_or_append_left, get_or_push, length_push}
use Rattle.std.proofs.lemmas.List.Elements.{Contains-append_left, Contains-get_or, Contains-push, Contains-push_cases}
use Rattle.std.proofs.lemmas.List.Kept.{AllPairs-from_increasing}
use Rattle.std.proofs.lemmas.List.Sums.{sum_by-cons}
use Rattle.std.specs.List.{AllPairs}
use Rattle.std.specs.List.Sorted.{IsStrictlyIncreasing}
use Rattle.krates_rules.proofs.Members.{Member, contains_of, member_of}
use Rattle.krates_answers.specs.DirectLinks.{AreExactly}

-- ---- one number after another

pub exactly_none : (Has : ℕ → Type 0) → ((n : ℕ) → Has n → ⊥) → AreExactly Has []
exactly_none Has none = record { ascending = λ k lt. absurd (omega (arith, lt)); exactly = λ n. (λ c. absurd (member_of [] n c), λ h. absurd (none n h)) }

-- a number above all of an ascending list
increasing_push : (xs : List ℕ) (x : ℕ) → IsStrictlyIncreasing xs → ((n : ℕ) → Contains xs n → n < x) → IsStrictlyIncreasing (xs ++ x ∷ [])
increasing_push xs x up below k lt =
    let within : k < length xs = omega (arith, lt, length_push xs x) in
    let here : get_or (xs ++ x ∷ []) k 0 ≡ get_or xs k 0 = get_or_append_left xs (x ∷ []) 0 k within in
    elim (cases_lt (k + 1) (length xs)) [
      | inl more ↦
          (let next : get_or (xs ++ x ∷ []) (k + 1) 0 ≡ get_or xs (k + 1) 0 = get_or_append_left xs (x ∷ []) 0 (k + 1) more in
          omega (arith, here, next, up k more))
      | inr last ↦
          (let next : get_or (xs ++ x ∷ []) (k + 1) 0 ≡ x = get_or_push xs x 0 (k + 1) (omega (arith, last, within)) in
          omega (arith, here, next, below (get_or xs k 0) (Contains-get_or xs k 0 within)))
    ]

-- one more number has the property, which is above the others
pub exactly_push : (A B : ℕ → Type 0) (xs : List ℕ) (x : ℕ) → AreExactly A xs → ((n : ℕ) → A n → n < x) → ((n : ℕ) → B n ↔ (A n ⊎ (x ≡ n))) → AreExactly B (xs ++ x ∷ [])
exactly_push A B xs x e below same = record {
  ascending = increasing_push xs x e.ascending (λ n c. below n ((e.exactly n).0 c));
  exactly = λ n. (
    λ c. (same n).1 (elim (Contains-push_cases xs x n c) [ inl old ↦ inl ((e.exactly n).0 old) | inr new ↦ inr new ]),
    λ h. elim ((same n).0 h) [ inl old ↦ Contains-append_left xs (x ∷ []) n ((e.exactly n).1 old) | inr new ↦ subst (Contains (xs ++ x ∷ [])) new (Contains-push xs x) ],
  );
}

-- a property that the same numbers have
pub exactly_same : (A B : ℕ → Type 0) (xs : List ℕ) → ((n : ℕ) → A n ↔ B n) → AreExactly A xs → AreExactly B xs
exactly_same A B xs same e = record { ascending = e.ascending; exactly = λ n. (λ c. (same n).0 ((e.exactly n).0 c), λ h. (e.exactly n).1 ((same n).1 h)) }

-- what follows for each number of the list
pub exactly_all : (Has P : ℕ → Type 0) (xs : List ℕ) → ((n : ℕ) → Has n → P n) → AreExactly Has xs → All P xs
exactly_all Has P xs so e k d lt = so (get_or xs k d) ((e.exactly (get_or xs k d)).0 (Contains-get_or xs k d lt))

-- ---- how often a number is in an ascending list

not_counted : (b : Bool) → (b ≡ true → ⊥) → ◌≡◌ {A = ℕ} (cond b 1 0) 0
not_counted b other = ap (λ (v : Bool). cond v 1 0) (false_from_ne_true b other)

none_counted : (x : ℕ) (ys : List ℕ) → ((j d : ℕ) → j < length ys → x < get_or ys j d) → count_by (λ n. n == x) ys ≡ 0
none_counted x [] above = refl
none_counted x (y ∷ ys) above =
    let first : x < y = above 0 y (omega arith) in
    let uncounted = not_counted (y == x) (λ t. (let same = (Decides-eqb y x).0 t in omega (arith, same, first))) in
    let more = none_counted x ys (λ j d lt. above (suc j) d (omega (arith, lt))) in
    sum_by-cons (λ n. cond (n == x) 1 0) y ys ∙ omega (arith, uncounted, more)

counted : (xs : List ℕ) (a : ℕ) → AllPairs (λ x y. x < y) xs → (Member xs a × (count_by (λ n. n == a) xs ≡ 1)) ⊎ ((Member xs a → ⊥) × (count_by (λ n. n == a) xs ≡ 0))
counted [] a up = inr (λ m. m, refl)
counted (x ∷ xs) a up =
    let step : count_by (λ n. n == a) (x ∷ xs) ≡ cond (x == a) 1 0 + count_by (λ n. n == a) xs = sum_by-cons (λ n. cond (n == a) 1 0) x xs in
    elim (cases_eq x a) [
      | inl same ↦
          (let hit : ◌≡◌ {A = ℕ} (cond (x == a) 1 0) 1 = ap (λ (b : Bool). cond b 1 0) ((Decides-eqb x a).1 same) in
          let none = none_counted a xs (λ j d lt. subst (λ n. n < get_or xs j d) same (up 0 (suc j) d (omega arith) (omega (arith, lt)))) in
          inl (inl same, step ∙ omega (arith, hit, none)))
      | inr differ ↦
          (let uncounted = not_counted (x == a) (λ t. differ ((Decides-eqb x a).0 t)) in
          elim (counted xs a (λ i j d lt l. up (suc i) (suc j) d (omega (arith, lt)) (omega (arith, l)))) [
            | inl there ↦ inl (inr there.0, step ∙ omega (arith, uncounted, there.1))
            | inr none ↦ inr (λ m. elim m [ inl e ↦ differ e | inr more ↦ none.0 more ], step ∙ omega (arith, uncounted, none.1))
          ])
    ]

-- once, if it is there, and otherwise not at all
pub count_of : (xs : List ℕ) (a : ℕ) → IsStrictlyIncreasing xs → (Contains xs a × (count_by (λ n. n == a) xs ≡ 1)) ⊎ ((Contains xs a → ⊥) × (count_by (λ n. n == a) xs ≡ 0))
count_of xs a up = elim (counted xs a (AllPairs-from_increasing xs up)) [
  | inl there ↦ inl (contains_of xs a there.0, there.1)
  | inr none ↦ inr (λ c. none.0 (member_of xs a c), none.1)
]
