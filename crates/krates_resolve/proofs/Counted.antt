-- The counts of a search, while it goes on.
use Rattle.std.proofs.Common.{◌≡◌, ℕ, zero, suc, ◌+◌, ◌-◌, ◌^◌, ◌<◌, ◌≤◌, List, [], ◌∷◌, ◌++◌, length, get_or, min, Some, inl, inr, refl, sym, ap, ◌∙◌, subst, arith}
use Rattle.std.proofs.lemmas.Bool.{cases_lt}
use Rattle.std.proofs.lemmas.List.{length-append}
use Rattle.std.proofs.lemmas.List.Sums.{sum_by_push}
use Rattle.std.proofs.lemmas.Option.{slice_get-get_or, slice_get_within, same_Some}
use Rattle.std.proofs.Math.Nat.{min-eq_left, min-eq_right}
use Rattle.std.specs.List.{slice_get}
use Rattle.krates_resolve.specs.Saturation.{NumberHasReferences, HasCounted, HaveTakenReferences, HasCountedAll}
use Rattle.krates_selection.specs.Selection.{IsFresh, counted}
use Rattle.krates_search.specs.declared.search_state.SearchState.{SearchState}
use Rattle.krates_selection.specs.declared.work.Work.{Work}
use Rattle.krates_resolve.proofs.Taken.{taken_to}
use Rattle.krates_questions.specs.declared.context.Context.{Context}
use Rattle.krates_search.specs.SearchState.{Grows}

-- ---- counts that stay at their greatest value

capped_more : (a b m : ℕ) → min (min a m + b) m ≡ min (a + b) m
capped_more a b m = elim (cases_lt a m) [
  | inl lt ↦ ap (λ (k : ℕ). min (k + b) m) (min-eq_left (omega arith))
  | inr le ↦ (
      let over : m ≤ m + b = omega arith in
      let also : m ≤ a + b = omega arith in
      ap (λ (k : ℕ). min (k + b) m) (min-eq_right le) ∙ min-eq_right over ∙ sym (min-eq_right also))
]

pub counted_more : (a b : ℕ) → counted (counted a + b) ≡ counted (a + b)
counted_more a b = capped_more a b (2 ^ 64 - 1)

pub counted_both : (a b : ℕ) → counted (counted a + counted b) ≡ counted (a + b)
counted_both a b =
    let turned : a + counted b ≡ counted b + a = omega arith in
    let back : b + a ≡ a + b = omega arith in
    counted_more a (counted b) ∙ ap counted turned ∙ counted_more b a ∙ ap counted back

-- ---- one is taken

-- what is among the first elements was there before
stood : (xs ys : List ℕ) (n k p : ℕ) → ((j q : ℕ) → slice_get xs j ≡ Some q → slice_get ys j ≡ Some q) → n ≤ length xs → k < n → slice_get ys k ≡ Some p → slice_get xs k ≡ Some p
stood xs ys n k p stays within lt at =
    let old = slice_get-get_or xs k 0 (omega (arith, lt, within)) in
    old ∙ sym (stays k (get_or xs k 0) old) ∙ at

-- the features taken so far have as many references after more has been found
references_stay : (b : Context) (x z : SearchState) (n m : ℕ) → Grows b (taken_to x m x.features.taken) z → x.features.taken ≤ length x.features.put → HaveTakenReferences b x n → HaveTakenReferences b z n
references_stay b x z n m g within h = record {
  counts = h.counts;
  long = h.long ∙ sym g.features_taken;
  each = λ k number c put count. h.each k number c
      (stood x.features.put z.features.put x.features.taken k number g.features within (subst (λ (l : ℕ). k < l) h.long (slice_get_within h.counts k c count)) put) count;
  total = h.total;
}

pub crate_counted : (b : Context) (x z : SearchState) (w v : Work) → HasCounted b x w → Grows b (taken_to x (x.krates.taken + 1) x.features.taken) z → x.features.taken ≤ length x.features.put
    → v ≡ record w { krates = counted (w.krates + 1) } → HasCounted b z v
crate_counted b x z w v all g within is = record {
  krates = ap (λ (o : Work). o.krates) is ∙ ap (λ (k : ℕ). counted (k + 1)) all.krates ∙ counted_more x.krates.taken 1 ∙ ap counted (sym g.krates_taken);
  features = ap (λ (o : Work). o.features) is ∙ all.features ∙ ap counted (sym g.features_taken);
  references = (
    all.references.0,
    references_stay b x z all.references.0 (x.krates.taken + 1) g within all.references.1,
    ap (λ (o : Work). o.references) is ∙ all.references.2,
  );
}

-- the last of a list with one more element
at_end : (xs : List ℕ) (y k p : ℕ) → slice_get (xs ++ y ∷ []) k ≡ Some p → length xs ≤ k → y ≡ p
at_end [] y zero p at le = same_Some y p at
at_end [] y (suc k) p at le = absurd cc
at_end (x ∷ xs) y zero p at le = absurd (omega (arith, le))
at_end (x ∷ xs) y (suc k) p at le = at_end xs y k p at (omega (arith, le))

-- and each before it
before_end : (xs : List ℕ) (y k p : ℕ) → slice_get (xs ++ y ∷ []) k ≡ Some p → k < length xs → slice_get xs k ≡ Some p
before_end [] y k p at lt = absurd (omega (arith, lt))
before_end (x ∷ xs) y zero p at lt = at
before_end (x ∷ xs) y (suc k) p at lt = before_end xs y k p at (omega (arith, lt))

-- the references of one more feature
references_more : (b : Context) (x z : SearchState) (n m t : ℕ) → Grows b (taken_to x x.krates.taken (x.features.taken + 1)) z → x.features.taken ≤ length x.features.put → slice_get x.features.put x.features.taken ≡ Some t
    → NumberHasReferences b t m → HaveTakenReferences b x n → HaveTakenReferences b z (n + m)
references_more b x z n m t g within at here h = record {
  counts = h.counts ++ m ∷ [];
  long = length-append h.counts (m ∷ []) ∙ ap (λ (l : ℕ). l + 1) h.long ∙ sym g.features_taken;
  each = λ k number c put count. elim (cases_lt k (length h.counts)) [
    | inl lt ↦ h.each k number c (stood x.features.put z.features.put x.features.taken k number g.features within (subst (λ (l : ℕ). k < l) h.long lt) put) (before_end h.counts m k c count lt)
    | inr le ↦ (
        let below = slice_get_within (h.counts ++ m ∷ []) k c count in
        let long = length-append h.counts (m ∷ []) in
        let e : x.features.taken ≡ k = omega (arith, below, long, le, h.long) in
        let same : t ≡ number = same_Some t number (sym (g.features x.features.taken t at) ∙ ap (λ (j : ℕ). slice_get z.features.put j) e ∙ put) in
        subst (λ (j : ℕ). NumberHasReferences b j c) same (subst (NumberHasReferences b t) (at_end h.counts m k c count le) here))
  ];
  total = ap (λ (j : ℕ). j + m) h.total ∙ sym (sum_by_push (λ (j : ℕ). j) h.counts m);
}

pub feature_counted : (b : Context) (x z : SearchState) (w v : Work) (t m k : ℕ) → HasCounted b x w → Grows b (taken_to x x.krates.taken (x.features.taken + 1)) z → x.features.taken ≤ length x.features.put
    → slice_get x.features.put x.features.taken ≡ Some t → NumberHasReferences b t m → v.krates ≡ w.krates → v.features ≡ counted (w.features + 1) → k ≡ counted m → v.references ≡ counted (w.references + k) → HasCounted b z v
feature_counted b x z w v t m k all g within at here krates features is references = record {
  krates = krates ∙ all.krates ∙ ap counted (sym g.krates_taken);
  features = features ∙ ap (λ (k : ℕ). counted (k + 1)) all.features ∙ counted_more x.features.taken 1 ∙ ap counted (sym g.features_taken);
  references = (
    all.references.0 + m,
    references_more b x z all.references.0 m t g within at here all.references.1,
    references ∙ ap (λ (j : ℕ). counted (w.references + j)) is ∙ ap (λ (j : ℕ). counted (j + counted m)) all.references.2 ∙ counted_both all.references.0 m,
  );
}

-- ---- at the start and at the end

pub counted_start : (b : Context) (x : SearchState) (w : Work) → IsFresh w → x.krates.taken ≡ 0 → x.features.taken ≡ 0 → HasCounted b x w
counted_start b x w fresh krates features = record {
  krates = ap (λ (o : Work). o.krates) fresh ∙ ap counted (sym krates);
  features = ap (λ (o : Work). o.features) fresh ∙ ap counted (sym features);
  references = (
    0,
    record { counts = []; long = sym features; each = λ k number m put count. absurd (none_there k m count); total = refl },
    ap (λ (o : Work). o.references) fresh,
  );
}
  where
    none_there : (k m : ℕ) → slice_get [] k ≡ Some m → ⊥
    none_there k m at = cc

pub counted_end : (b : Context) (x : SearchState) (w : Work) → HasCounted b x w → x.krates.taken ≤ length x.krates.put → x.features.taken ≤ length x.features.put → length x.krates.put ≤ x.krates.taken
    → length x.features.put ≤ x.features.taken → HasCountedAll b x w
counted_end b x w all krates features no_krate no_feature = record { counted = all; krates = omega (arith, krates, no_krate); features = omega (arith, features, no_feature) }
