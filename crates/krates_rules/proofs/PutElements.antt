-- An element that is put into a set, after the list of those that were put before.
use Rattle.std.proofs.Common.{◌≡◌, ◌↔◌, List, [], ◌∷◌, ◌++◌, Bool, true, false, cond, IsTrue, Ordering, Less, Equal, Greater, Contains, inl, inr, refl, subst, arith}
use Rattle.std.proofs.lemmas.List.Elements.{Contains-append_left, Contains-push, Contains-push_cases}
use Rattle.std.specs.Ordering.{is_eq}

pub is_equal : (o : Ordering) → is_eq o ≡ true → o ≡ Equal
is_equal Less h = absurd cc
is_equal Equal h = refl
is_equal Greater h = absurd cc

pub equal_is : (o : Ordering) → o ≡ Equal → is_eq o ≡ true
equal_is o e = rw e refl

pub none_there : {X : Type 0} (x : X) → Contains [] x → ⊥
none_there x (k, lt, is) = absurd (omega (arith, lt))

-- what the set answers for `y`, once `x` is put into it
pub put_step : {X : Type 0} (b o : Bool) (xs : List X) (x y : X) → (b ≡ true → x ≡ y) → (x ≡ y → b ≡ true) → (IsTrue o ↔ Contains xs y) → IsTrue (cond b true o) ↔ Contains (xs ++ x ∷ []) y
put_step {X} true o xs x y there back h = (λ t. subst (λ (z : X). Contains (xs ++ x ∷ []) z) (there refl) (Contains-push xs x), λ c. refl)
put_step false o xs x y there back h = (
  λ t. Contains-append_left xs (x ∷ []) y (h.0 t),
  λ c. elim (Contains-push_cases xs x y c) [ inl z ↦ h.1 z | inr e ↦ absurd (let no : false ≡ true = back e in cc) ],
)
