-- Whether what is sought is found, list by list.
use Rattle.std.proofs.Common.{◌≡◌, ◌↔◌, ℕ, Bor, IsTrue, zero, suc, ◌+◌, ◌<◌, ◌≤◌, Bool, true, false, if◌then◌else◌, List, [], ◌∷◌, ◌++◌, Contains, get_or, length, map, take, arith, refl, sym, ap, ◌∙◌, subst, inl, inr}
use Rattle.std.proofs.lemmas.List.{append-nil, get_or_default, map-id, map_more, take_all, take_more}
use Rattle.std.proofs.lemmas.List.Concat.{flat_map-append}
use Rattle.std.proofs.lemmas.List.FromFn.{get_or-range_with_len, length-range_with_len, map-range_with_len_more}
use Rattle.std.proofs.lemmas.List.Elements.{Contains-append_cases, Contains-append_left, Contains-append_right}
use Rattle.std.specs.BTreeSet.{BTreeSet}
use Rattle.std.specs.List.{flat_map, range_with_len}
use Rattle.krates_rules.proofs.Elements.{contains_image}
use Rattle.krates_rules.proofs.PutElements.{none_there}
use Rattle.krates_build_facts.specs.FactModels.{FactModel, RuleModel}
use Rattle.krates_build_facts.specs.Rows.{rule, rule_if}
use Rattle.krates_build_facts.specs.Steps.{step_view}
use Rattle.krates_build_facts.specs.declared.facts.BuildFact.{BuildFact}
use Rattle.krates_build_facts.specs.declared.steps.BuildStep.{BuildStep}
use Rattle.krates_build_facts.proofs.RowLists.{here, in_flat}
use Rattle.krates_build_checkers.specs.Finding.{Finds, IsPassedOver, IsSought}
use Rattle.krates_build_checkers.specs.GivenFacts.{IsKept, IsOpen, facts_of_set}
use Rattle.krates_build_checkers.specs.declared.sought.Sought.{Sought}
use Rattle.krates_build_checkers.specs.declared.sought.Sought.TheVariants as soughts

-- ---- lists of rows

pub nothing_found : (s : Sought) → Finds false s []
nothing_found s = record { found = λ yes. absurd cc; missed = λ no row c. absurd (none_there row c) }

-- it is among the first ones
pub found_first : (b : Bool) (s : Sought) (xs ys : List RuleModel) → b ≡ true → Finds b s xs → Finds true s (xs ++ ys)
found_first b s xs ys e h = record {
  found = λ yes. let w = h.found e in (w.0, Contains-append_left xs ys w.0 w.1, w.2);
  missed = λ no row c. absurd cc;
}

-- it isn't, and so it is among the others or nowhere
pub found_second : (b a : Bool) (s : Sought) (xs ys : List RuleModel) → b ≡ false → Finds b s xs → Finds a s ys → Finds a s (xs ++ ys)
found_second b a s xs ys e one other = record {
  found = λ yes. let w = other.found yes in (w.0, Contains-append_right xs ys w.0 w.1, w.2);
  missed = λ no row c. elim (Contains-append_cases xs ys row c) [ inl first ↦ one.missed e row first | inr second ↦ other.missed no row second ];
}

pub found_before : (b : Bool) (s : Sought) (xs ys : List RuleModel) → b ≡ true → Finds b s xs → Finds b s (xs ++ ys)
found_before b s xs ys e h = record {
  found = λ yes. let w = h.found yes in (w.0, Contains-append_left xs ys w.0 w.1, w.2);
  missed = λ lacks row c. absurd (let wrong : false ≡ true = sym lacks ∙ e in cc);
}

pub found_where : (b a : Bool) (s : Sought) (rows : List RuleModel) → b ≡ true → Finds a s rows → Finds a s (if b then rows else [])
found_where b a s rows e h = subst (λ (c : Bool). Finds a s (if c then rows else [])) (sym e) h

pub found_except : (b a : Bool) (s : Sought) (rows : List RuleModel) → b ≡ false → Finds a s rows → Finds a s (if b then [] else rows)
found_except b a s rows e h = subst (λ (c : Bool). Finds a s (if c then [] else rows)) (sym e) h

pub none_found : (b : Bool) (s : Sought) (rows : List RuleModel) → b ≡ false → Finds b s rows → Finds false s rows
none_found b s rows e h = subst (λ (a : Bool). Finds a s rows) e h

-- ---- one instance

only_one : (x y : RuleModel) → Contains (x ∷ []) y → x ≡ y
only_one x y (zero, lt, is) = is
only_one x y (suc k, lt, is) = absurd (omega (arith, lt))

-- the instance is sought, or it isn't
pub found_rule : (b : Bool) (s : Sought) (row : RuleModel) → (b ≡ true → IsSought s row) → (b ≡ false → IsPassedOver s row) → Finds b s (row ∷ [])
found_rule b s row is not = record {
  found = λ yes. (row, here row [], is yes);
  missed = λ no other c. subst (IsPassedOver s) (only_one row other c) (not no);
}

pub step_found : (b : Bool) (step : Bor BuildStep) (row : RuleModel) → (IsTrue b ↔ (row ≡ step_view step.now)) → Finds b (soughts.Step step) (row ∷ [])
step_found b step row h = found_rule b (soughts.Step step) row (λ yes. h.0 yes) (λ no same. (let wrong : false ≡ true = sym no ∙ h.1 same in cc))

pub open_found : (b : Bool) (given : Bor (BTreeSet BuildFact)) (row : RuleModel) → (b ≡ true → IsOpen (facts_of_set given.now) row) → (b ≡ false → IsKept (facts_of_set given.now) row) → Finds b (soughts.Open given) (row ∷ [])
open_found b given row there lacks = found_rule b (soughts.Open given) row there lacks

pub found_unless : (b : Bool) (s : Sought) (ps : List FactModel) (f : FactModel) → b ≡ false → Finds false s (rule_if b ps f)
found_unless b s ps f e = subst (λ (c : Bool). Finds false s (rule_if c ps f)) (sym e) (nothing_found s)

pub found_if : (b a : Bool) (s : Sought) (ps : List FactModel) (f : FactModel) → b ≡ true → Finds a s (rule ps f ∷ []) → Finds a s (rule_if b ps f)
found_if b a s ps f e h = subst (λ (c : Bool). Finds a s (rule_if c ps f)) (sym e) h

-- ---- loops

-- it is among those of an element
pub found_at : {X : Type 0} (f : X → List RuleModel) (xs : List X) (i : ℕ) (x : X) (s : Sought) (b : Bool) → i < length xs → x ≡ get_or xs i x → b ≡ true → Finds b s (f x) → Finds true s (flat_map f xs)
found_at f xs i x s b lt is e h = record {
  found = λ yes. let w = h.found e in (w.0, in_flat f xs x w.0 (i, lt, sym is) w.1, w.2);
  missed = λ no row c. absurd cc;
}

-- it isn't, nor among those of the elements before it
pub none_more : {X : Type 0} (f : X → List RuleModel) (xs : List X) (i : ℕ) (x : X) (s : Sought) (b : Bool) → i < length xs → x ≡ get_or xs i x → b ≡ false → Finds false s (flat_map f (take i xs)) → Finds b s (f x)
    → Finds false s (flat_map f (take (i + 1) xs))
none_more {X} f xs i x s b lt is e h one =
    let more : take (i + 1) xs ≡ take i xs ++ x ∷ [] = take_more xs i x lt ∙ ap (λ (y : X). take i xs ++ y ∷ []) (sym is) in
    let grown : flat_map f (take (i + 1) xs) ≡ flat_map f (take i xs) ++ f x = ap (flat_map f) more ∙ flat_map-append f (take i xs) (x ∷ []) ∙ ap (λ (rs : List RuleModel). flat_map f (take i xs) ++ rs) (append-nil (f x)) in
    subst (Finds false s) (sym grown) (found_second false false s (flat_map f (take i xs)) (f x) refl h (none_found b s (f x) e one))

pub none_at_all : {X : Type 0} (f : X → List RuleModel) (xs : List X) (i : ℕ) (s : Sought) → length xs ≤ i → Finds false s (flat_map f (take i xs)) → Finds false s (flat_map f xs)
none_at_all f xs i s le h = subst (λ ys. Finds false s (flat_map f ys)) (take_all i xs le) h

-- it is that of an element
pub mapped_at : {X : Type 0} (f : X → RuleModel) (xs : List X) (i : ℕ) (x : X) (s : Sought) (b : Bool) → i < length xs → x ≡ get_or xs i x → b ≡ true → Finds b s (f x ∷ []) → Finds true s (map f xs)
mapped_at f xs i x s b lt is e h = record {
  found = λ yes. (
      let w = h.found e in
      (w.0, subst (λ (r : RuleModel). Contains (map f xs) r) (only_one (f x) w.0 w.1) (contains_image f xs x (i, lt, sym is)), w.2));
  missed = λ no row c. absurd cc;
}

-- it isn't, nor that of an element before it
pub none_mapped_more : {X : Type 0} (f : X → RuleModel) (xs : List X) (i : ℕ) (x : X) (s : Sought) (b : Bool) → i < length xs → x ≡ get_or xs i x → b ≡ false → Finds false s (map f (take i xs)) → Finds b s (f x ∷ [])
    → Finds false s (map f (take (i + 1) xs))
none_mapped_more {X} f xs i x s b lt is e h one =
    let grown : map f (take (i + 1) xs) ≡ map f (take i xs) ++ f x ∷ [] = map_more f xs i x lt ∙ ap (λ (y : X). map f (take i xs) ++ f y ∷ []) (sym is) in
    subst (Finds false s) (sym grown) (found_second false false s (map f (take i xs)) (f x ∷ []) refl h (none_found b s (f x ∷ []) e one))

pub none_mapped : {X : Type 0} (f : X → RuleModel) (xs : List X) (i : ℕ) (s : Sought) → length xs ≤ i → Finds false s (map f (take i xs)) → Finds false s (map f xs)
none_mapped f xs i s le h = subst (λ ys. Finds false s (map f ys)) (take_all i xs le) h

-- ---- elements that are read at their places

pub found_get : {X : Type 0} (f : X → List RuleModel) (xs : List X) (i : ℕ) (d : X) (s : Sought) (b : Bool) → i < length xs → b ≡ true → Finds b s (f (get_or xs i d)) → Finds true s (flat_map f xs)
found_get f xs i d s b lt e h = found_at f xs i (get_or xs i d) s b lt (get_or_default xs i d (get_or xs i d) lt) e h

pub none_get : {X : Type 0} (f : X → List RuleModel) (xs : List X) (i : ℕ) (d : X) (s : Sought) (b : Bool) → i < length xs → b ≡ false → Finds false s (flat_map f (take i xs)) → Finds b s (f (get_or xs i d)) → Finds false s (flat_map f (take (i + 1) xs))
none_get f xs i d s b lt e h one = none_more f xs i (get_or xs i d) s b lt (get_or_default xs i d (get_or xs i d) lt) e h one

pub mapped_get : {X : Type 0} (f : X → RuleModel) (xs : List X) (i : ℕ) (d : X) (s : Sought) (b : Bool) → i < length xs → b ≡ true → Finds b s (f (get_or xs i d) ∷ []) → Finds true s (map f xs)
mapped_get f xs i d s b lt e h = mapped_at f xs i (get_or xs i d) s b lt (get_or_default xs i d (get_or xs i d) lt) e h

pub none_mapped_get : {X : Type 0} (f : X → RuleModel) (xs : List X) (i : ℕ) (d : X) (s : Sought) (b : Bool) → i < length xs → b ≡ false → Finds false s (map f (take i xs)) → Finds b s (f (get_or xs i d) ∷ []) → Finds false s (map f (take (i + 1) xs))
none_mapped_get f xs i d s b lt e h one = none_mapped_more f xs i (get_or xs i d) s b lt (get_or_default xs i d (get_or xs i d) lt) e h one

-- ---- loops over numbers

number_more : (n : ℕ) → range_with_len 0 (n + 1) ≡ range_with_len 0 n ++ n ∷ []
number_more n =
    let plain : (m : ℕ) → map (λ (k : ℕ). k) (range_with_len 0 m) ≡ range_with_len 0 m = λ m. map-id (range_with_len 0 m) in
    sym (plain (n + 1)) ∙ map-range_with_len_more (λ (k : ℕ). k) 0 n n (omega arith) ∙ ap (λ (ks : List ℕ). ks ++ n ∷ []) (plain n)

-- it is among those of a number
pub counted_at : (f : ℕ → List RuleModel) (m n : ℕ) (s : Sought) (b : Bool) → n < m → b ≡ true → Finds b s (f n) → Finds true s (flat_map f (range_with_len 0 m))
counted_at f m n s b lt e h = record {
  found = λ yes. let w = h.found e in (w.0, in_flat f (range_with_len 0 m) n w.0 (n, rw (length-range_with_len 0 m) lt, (let e : get_or (range_with_len 0 m) n n ≡ 0 + n = get_or-range_with_len 0 m n n lt in omega (arith, e))) w.1, w.2);
  missed = λ no row c. absurd cc;
}

-- it isn't, nor among those of a number before it
pub none_counted_more : (f : ℕ → List RuleModel) (n : ℕ) (s : Sought) (b : Bool) → b ≡ false → Finds false s (flat_map f (range_with_len 0 n)) → Finds b s (f n) → Finds false s (flat_map f (range_with_len 0 (n + 1)))
none_counted_more f n s b e h one =
    let grown : flat_map f (range_with_len 0 (n + 1)) ≡ flat_map f (range_with_len 0 n) ++ f n
    = ap (flat_map f) (number_more n) ∙ flat_map-append f (range_with_len 0 n) (n ∷ []) ∙ ap (λ (rs : List RuleModel). flat_map f (range_with_len 0 n) ++ rs) (append-nil (f n)) in
    subst (Finds false s) (sym grown) (found_second false false s (flat_map f (range_with_len 0 n)) (f n) refl h (none_found b s (f n) e one))
