-- Elements of lists, mapped or not.
use Rattle.std.proofs.Common.{◌≡◌, ℕ, ◌<◌, ◌==◌, List, Some, length, get_or, map, Bool, true, false, ◌&&◌, Contains, option_map, inl, inr, refl, sym, ap, ◌∙◌, arith}
use Rattle.std.proofs.lemmas.Bool.{cases_lt, eqb-false}
use Rattle.std.proofs.lemmas.List.{get_or_default}
use Rattle.std.proofs.lemmas.Option.{slice_get-map, slice_get-get_or}
use Rattle.krates_rules.proofs.FirstPlaces.{seen_at}
use Rattle.krates_rules.proofs.OnlyOne.{place_in}
use Rattle.krates_rules.proofs.Standings.{contains_at}

pub contains_or : {A : Type 0} (xs : List A) (k : ℕ) (d : A) → k < length xs → Contains xs (get_or xs k d)
contains_or xs k d lt = (k, lt, get_or_default xs k (get_or xs k d) d lt)

pub contains_image : {A B : Type 0} (f : A → B) (xs : List A) (x : A) → Contains xs x → Contains (map f xs) (f x)
contains_image f xs x c = let at = place_in xs x c in contains_at (map f xs) at.0 (f x) (slice_get-map f xs at.0 ∙ ap (option_map f) at.1)

pub contains_source : {A B : Type 0} (f : A → B) (xs : List A) (y : B) → Contains (map f xs) y → (x : A) × Contains xs x × (f x ≡ y)
contains_source f xs y c =
    let at = place_in (map f xs) y c in
    let s = seen_at f xs at.0 y at.1 in
    (get_or xs at.0 s.0, contains_or xs at.0 s.0 s.1, s.2)

-- a list that isn't empty has an element
pub has_element : {A : Type 0} (xs : List A) → false ≡ (length xs == 0) → 0 < length xs
has_element xs h = elim (cases_lt 0 (length xs)) [
  | inl lt ↦ lt
  | inr le ↦ (
      let none : length xs ≡ 0 = omega arith in
      absurd (eqb-false (length xs) 0 (sym h) none))
]

-- what holds of both holds of each
pub both : (p q : Bool) → (p && q) ≡ true → (p ≡ true) × (q ≡ true)
both true q h = (refl, h)
both false q h = absurd cc

-- the view of an element that was read at a place is in the list of views
pub contains_read : {A B : Type 0} (f : A → B) (xs : List A) (k : ℕ) (x : A) → k < length xs → x ≡ get_or xs k x → Contains (map f xs) (f x)
contains_read f xs k x lt is =
    contains_at (map f xs) k (f x) (slice_get-map f xs k ∙ ap (option_map f) (slice_get-get_or xs k x lt ∙ ap (λ y. Some y) (sym is)))
