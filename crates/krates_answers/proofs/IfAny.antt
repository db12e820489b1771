-- A list, if it has anything.
use Rattle.std.proofs.Common.{◌≡◌, ◌++◌, ℕ, zero, suc, slice_get, List, [], ◌∷◌, true, Option, Some, None, refl, inl, inr}
use Rattle.std.specs.Option.{is_some}
use Rattle.krates_rules.proofs.Members.{Member}

-- a list, if it has anything
abbrev pub if_any : {T : Type 0} → List T → Option (List T)
if_any [] = None
if_any (x ∷ xs) = Some (x ∷ xs)

pub if_any-push : {T : Type 0} (xs : List T) (x : T) → if_any (xs ++ x ∷ []) ≡ Some (xs ++ x ∷ [])
if_any-push [] x = refl
if_any-push (y ∷ ys) x = refl

pub same_if_any : {T : Type 0} (xs ys : List T) → Some xs ≡ if_any ys → xs ≡ ys
same_if_any xs [] e = absurd cc
same_if_any xs (y ∷ ys) e = cc

pub none_if_any : {T : Type 0} (xs : List T) → None ≡ if_any xs → [] ≡ xs
none_if_any [] e = refl
none_if_any (x ∷ xs) e = absurd cc

-- an element of a list
pub first_of : {T : Type 0} (xs ys : List T) → if_any xs ≡ Some ys → (x : T) × Member xs x
first_of [] ys e = absurd cc
first_of (x ∷ xs) ys e = (x, inl refl)

pub some_if_any : {T : Type 0} (xs : List T) (x : T) → Member xs x → is_some (if_any xs) ≡ true
some_if_any [] x m = absurd m
some_if_any (y ∷ ys) x m = refl

pub if_any-full : {T : Type 0} (xs : List T) (x : T) → Member xs x → if_any xs ≡ Some xs
if_any-full [] x m = absurd m
if_any-full (y ∷ ys) x m = refl

pub if_any-empty : {T : Type 0} (xs : List T) → ((x : T) → Member xs x → ⊥) → if_any xs ≡ None
if_any-empty [] lacks = refl
if_any-empty (x ∷ xs) lacks = absurd (lacks x (inl refl))

pub some_is_none : {X : Type 0} (found : Option X) (x : X) → found ≡ Some x → found ≡ None → ⊥
some_is_none found x some none = cc

pub member_from_place : {X : Type 0} (xs : List X) (i : ℕ) (x : X) → slice_get xs i ≡ Some x → Member xs x
member_from_place [] i x at = absurd cc
member_from_place (y ∷ ys) zero x at = inl cc
member_from_place (y ∷ ys) (suc i) x at = inr (member_from_place ys i x at)
