-- What `any` and `all` over a list answer, of the views of its elements.
use Rattle.std.proofs.Common.{◌↔◌, ℕ, ◌<◌, List, [], ◌∷◌, length, get_or, map, Bool, true, false, IsTrue, MatchBool, HoldsAt, Contains, refl, arith}
use Rattle.std.specs.List.{AllWithin}
use Rattle.krates_rules.proofs.Elements.{contains_image, contains_or}
use Rattle.krates_rules.proofs.Seen.{each_seen}

-- the place of an element as its view
at_place : {A B : Type 0} (f : A → B) (P : B → Type 0) (xs : List A) (k : ℕ) → k < length xs → HoldsAt (λ x. P (f x)) xs k → (y : B) × Contains (map f xs) y × P y
at_place f P [] k lt h = absurd (omega arith)
at_place f P (x ∷ xs) k lt h =
    let z = get_or (x ∷ xs) k x in
    (f z, contains_image f (x ∷ xs) z (contains_or (x ∷ xs) k x lt), h x)

-- whether one of the views has it
pub any_told : {A B : Type 0} (f : A → B) (P : B → Type 0) (xs : List A) (r : Bool)
    → MatchBool r ((k : ℕ) × (k < length xs) × HoldsAt (λ x. P (f x)) xs k) (AllWithin (λ x. P (f x) → ⊥) xs 0 (length xs)) → IsTrue r ↔ ((y : B) × Contains (map f xs) y × P y)
any_told f P xs true h = (λ t. at_place f P xs h.0 h.1 h.2, λ w. refl)
any_told f P xs false h = (λ t. absurd cc, λ w. absurd (each_seen f (λ y. P y → ⊥) xs xs (length xs) refl (omega arith) (λ k d lt. h k d (omega arith) lt) w.0 w.1 w.2))
