-- Lists of numbers, one for each number: which numbers each of them has.
use Rattle.std.proofs.Common.{◌≡◌, ◌⊎◌, ◌↔◌, ℕ, ◌+◌, ◌<◌, ◌^◌, List, [], ◌∷◌, ◌++◌, length, get_or, take, All, Contains, sym, subst, inl, inr, arith}
use Rattle.std.proofs.lemmas.Bool.{cases_lt}
use Rattle.std.proofs.lemmas.List.{get_or-take, get_or_append_left, get_or_push, length-take, length_push}
use Rattle.std.proofs.lemmas.List.Elements.{All-from_get_or, All-get_or}
use Rattle.std.proofs.lemmas.Option.{get_or_from_slice_get, slice_get-get_or, slice_get_within}
use Rattle.std.specs.List.Sorted.{IsStrictlyIncreasing}
use Rattle.krates_answers.specs.DirectLinks.{AreExactly, AreLinks, AreStored, IsListed}
use Rattle.krates_answers.proofs.ExactNumbers.{exactly_all, exactly_same}

-- the list of each number has exactly the numbers to which that one leads
pub record AreEach (Leads : ℕ → ℕ → Type 0) (lists : List (List ℕ)) : Type 0 where
  pub each : (a : ℕ) → a < length lists → AreExactly (Leads a) (get_or lists a [])

-- ---- a number in a list

pub listed_at : (lists : List (List ℕ)) (a b : ℕ) → IsListed lists a b → (a < length lists) × Contains (get_or lists a []) b
listed_at lists a b w = (
  slice_get_within lists a w.list w.at,
  subst (λ (list : List ℕ). Contains list b) (sym (get_or_from_slice_get lists a w.list [] w.at)) w.among,
)

pub at_listed : (lists : List (List ℕ)) (a b : ℕ) → a < length lists → Contains (get_or lists a []) b → IsListed lists a b
at_listed lists a b lt c = record { list = get_or lists a []; at = slice_get-get_or lists a [] lt; among = c }

-- in one list more
pub listed_more : (lists : List (List ℕ)) (i a b : ℕ) → i < length lists → IsListed (take (i + 1) lists) a b ↔ (IsListed (take i lists) a b ⊎ ((i ≡ a) × Contains (get_or lists i []) b))
listed_more lists i a b lt =
    let front : length (take i lists) ≡ i = simp length-take (omega (arith, lt)) in
    let more : length (take (i + 1) lists) ≡ i + 1 = simp length-take (omega (arith, lt)) in (
      λ w.
          (let at = listed_at (take (i + 1) lists) a b w in
          let below : a < i + 1 = omega (arith, at.0, more) in
          let here = subst (λ (list : List ℕ). Contains list b) (get_or-take (i + 1) lists a [] below) at.1 in
          elim (cases_lt a i) [
            | inl lower ↦ inl (at_listed (take i lists) a b (omega (arith, lower, front)) (subst (λ (list : List ℕ). Contains list b) (sym (get_or-take i lists a [] lower)) here))
            | inr last ↦ (let same : i ≡ a = omega (arith, last, below) in inr (same, subst (λ n. Contains (get_or lists n []) b) (sym same) here))
          ]),
      λ either. elim either [
        | inl w ↦
            (let at = listed_at (take i lists) a b w in
            let lower : a < i = omega (arith, at.0, front) in
            let here = subst (λ (list : List ℕ). Contains list b) (get_or-take i lists a [] lower) at.1 in
            let below : a < i + 1 = omega (arith, lower) in
            at_listed (take (i + 1) lists) a b (omega (arith, below, more)) (subst (λ (list : List ℕ). Contains list b) (sym (get_or-take (i + 1) lists a [] below)) here))
        | inr last ↦
            (let below : a < i + 1 = omega (arith, last.0) in
            let here = subst (λ n. Contains (get_or lists n []) b) last.0 last.1 in
            at_listed (take (i + 1) lists) a b (omega (arith, below, more)) (subst (λ (list : List ℕ). Contains list b) (sym (get_or-take (i + 1) lists a [] below)) here))
      ],
    )

-- ---- each list is exact

-- one more list
pub each_push : (Leads : ℕ → ℕ → Type 0) (lists : List (List ℕ)) (list : List ℕ) → AreEach Leads lists → AreExactly (Leads (length lists)) list → AreEach Leads (lists ++ list ∷ [])
each_push Leads lists list e last = record {
  each = λ a lt. elim (cases_lt a (length lists)) [
    | inl old ↦ subst (λ (xs : List ℕ). AreExactly (Leads a) xs) (sym (get_or_append_left lists (list ∷ []) [] a old)) (e.each a old)
    | inr new ↦
        (let same : length lists ≡ a = omega (arith, new, lt, length_push lists list) in
        subst (λ (xs : List ℕ). AreExactly (Leads a) xs) (sym (get_or_push lists list [] a same)) (subst (λ n. AreExactly (Leads n) list) same last))
  ];
}

-- under another name
pub each_same : (A B : ℕ → ℕ → Type 0) (lists : List (List ℕ)) → ((a b : ℕ) → a < length lists → A a b ↔ B a b) → AreEach A lists → AreEach B lists
each_same A B lists same e = record { each = λ a lt. exactly_same (A a) (B a) (get_or lists a []) (λ b. same a b lt) (e.each a lt) }

pub links_of : (count : ℕ) (Leads : ℕ → ℕ → Type 0) (lists : List (List ℕ)) → length lists ≡ count → ((a b : ℕ) → Leads a b → a < count) → AreEach Leads lists → AreLinks count Leads lists
links_of count Leads lists counted within e = record {
  counted = counted;
  ascending = All-from_get_or IsStrictlyIncreasing lists [] (λ a lt. (e.each a lt).ascending);
  exactly = λ a b. (
    λ w. (let at = listed_at lists a b w in ((e.each a at.0).exactly b).0 at.1),
    λ h. (let lt : a < length lists = omega (arith, counted, within a b h) in at_listed lists a b lt (((e.each a lt).exactly b).1 h)),
  );
}

pub each_of : (count : ℕ) (Leads : ℕ → ℕ → Type 0) (lists : List (List ℕ)) → AreLinks count Leads lists → AreEach Leads lists
each_of count Leads lists l = record {
  each = λ a lt. record {
    ascending = All-get_or IsStrictlyIncreasing lists a [] lt l.ascending;
    exactly = λ b. (λ c. (l.exactly a b).0 (at_listed lists a b lt c), λ h. (listed_at lists a b ((l.exactly a b).1 h)).1);
  };
}

-- what leads leads to a number that has a list
pub stored_of : (Leads : ℕ → ℕ → Type 0) (lists : List (List ℕ)) → ((a b : ℕ) → Leads a b → b < length lists) → length lists < 2 ^ 32 → AreEach Leads lists → AreStored lists
stored_of Leads lists inside numbered e = record {
  inside = All-from_get_or (λ list. All (λ n. n < length lists) list) lists [] (λ a lt. exactly_all (Leads a) (λ n. n < length lists) (get_or lists a []) (inside a) (e.each a lt));
  ascending = All-from_get_or IsStrictlyIncreasing lists [] (λ a lt. (e.each a lt).ascending);
  numbered = numbered;
}
