-- The first element of a list with a property of its view.
use Rattle.std.proofs.Common.{◌≡◌, inl, inr, ℕ, ◌<◌, List, length, get_or, map, sym, ap, ◌∙◌, subst, arith, Option, Some, None, slice_get, option_map, MatchOption, HoldsAt, Contains}
use Rattle.std.proofs.lemmas.Option.{none-some, same_Some, slice_get-map, slice_get-get_or, slice_get_cases}
use Rattle.std.specs.List.{AllWithin}
use Rattle.krates_rules.specs.DeclaredDependency.{FirstAt, IsFirstPlace}

-- an element of the view at a place is the view of the element at that place
pub seen_at : {A B : Type 0} (f : A → B) (xs : List A) (k : ℕ) (y : B) → slice_get (map f xs) k ≡ Some y → (x : A) × (k < length xs) × (f (get_or xs k x) ≡ y)
seen_at f xs k y here =
    elim (slice_get_cases xs k).1 [
      | inl r ↦ (r.0, r.1, same_Some (f (get_or xs k r.0)) y (ap (λ x. Some (f x)) r.3 ∙ sym (slice_get-map f xs k ∙ ap (option_map f) r.2) ∙ here))
      | inr r ↦ absurd (none-some y (sym (slice_get-map f xs k ∙ ap (option_map f) r.1) ∙ here))
    ]

-- an element with the property is the first, where none before it has the property
first_here : {A B : Type 0} (f : A → B) (P : B → Type 0) (xs : List A) (i : ℕ) → i < length xs → HoldsAt (λ x. P (f x)) xs i → AllWithin (λ x. P (f x) → ⊥) xs 0 i
    → (y : B) × FirstAt P (map f xs) i y
first_here f P xs i lt holds none =
    elim (slice_get_cases xs i).1 [
      | inl r ↦ (
        f r.0,
        record {
          here = slice_get-map f xs i ∙ ap (option_map f) r.2;
          holds = subst (λ x. P (f x)) r.3 (holds r.0);
          before = λ k y low here p.
              let s = seen_at f xs k y here in
              none k s.0 (omega arith) low (subst P (sym s.2) p);
        },
      )
      | inr r ↦ absurd (omega arith)
    ]

-- what `position` finds in a list, in terms of the views
pub first_place : {A B : Type 0} (f : A → B) (P : B → Type 0) (xs : List A) (r : Option ℕ)
    → MatchOption r (AllWithin (λ x. P (f x) → ⊥) xs 0 (length xs)) (λ i. (i < length xs) × HoldsAt (λ x. P (f x)) xs i × AllWithin (λ x. P (f x) → ⊥) xs 0 i)
    → IsFirstPlace P (map f xs) r
first_place f P xs None none = λ k y here p.
    let s = seen_at f xs k y here in
    none k s.0 (omega arith) s.1 (subst P (sym s.2) p)
first_place f P xs (Some i) found = first_here f P xs i found.0 found.1 found.2

-- ---- the place of an element that is in the list

-- a place is found
pub some_there : {A B : Type 0} (f : A → B) (xs : List A) (v : B) (r : Option ℕ)
    → MatchOption r (AllWithin (λ x. f x ≡ v → ⊥) xs 0 (length xs)) (λ i. (i < length xs) × HoldsAt (λ x. f x ≡ v) xs i × AllWithin (λ x. f x ≡ v → ⊥) xs 0 i)
    → Contains (map f xs) v → r ≡ None → ⊥
some_there f xs v None none (k, lt, is) e =
    let s = seen_at f xs k v (slice_get-get_or (map f xs) k v lt ∙ ap (λ y. Some y) is) in
    none k s.0 (omega arith) s.1 s.2
some_there f xs v (Some i) found c e = absurd cc

-- and it is the first one
pub first_there : {A B : Type 0} (f : A → B) (xs : List A) (v : B) (r : Option ℕ) (i : ℕ)
    → MatchOption r (AllWithin (λ x. f x ≡ v → ⊥) xs 0 (length xs)) (λ i. (i < length xs) × HoldsAt (λ x. f x ≡ v) xs i × AllWithin (λ x. f x ≡ v → ⊥) xs 0 i)
    → r ≡ Some i → FirstAt (λ y. y ≡ v) (map f xs) i v
first_there f xs v None i none e = absurd cc
first_there f xs v (Some j) i found e =
    let first = first_here f (λ y. y ≡ v) xs j found.0 found.1 found.2 in
    let there = subst (λ y. FirstAt (λ z. z ≡ v) (map f xs) j y) first.1.holds first.1 in
    subst (λ n. FirstAt (λ z. z ≡ v) (map f xs) n v) (same_Some j i e) there
