-- What holds of each element of a list and of those before it.
use Rattle.std.proofs.Common.{◌≡◌, ℕ, zero, suc, List, [], ◌∷◌, ◌++◌, take, Some, slice_get, append_assoc, append-nil, sym, subst}
use Rattle.std.proofs.lemmas.Option.{none-some, same_Some}
use Rattle.std.specs.Bool.{⊤}

-- P holds of each element, after the first list and the elements before it
abbrev pub EachAfter : {X : Type 0} → (List X → X → Type 0) → List X → List X → Type 0
EachAfter P before [] = ⊤
EachAfter P before (x ∷ xs) = P before x × EachAfter P (before ++ x ∷ []) xs

pub EachAfter-push : {X : Type 0} (P : List X → X → Type 0) (before xs : List X) (y : X) → EachAfter P before xs → P (before ++ xs) y → EachAfter P before (xs ++ y ∷ [])
EachAfter-push {X} P before [] y each last = (subst (λ (zs : List X). P zs y) (append-nil before) last, tt)
EachAfter-push {X} P before (x ∷ xs) y each last =
    (each.0, EachAfter-push P (before ++ x ∷ []) xs y each.1 (subst (λ (zs : List X). P zs y) (sym (append_assoc before (x ∷ []) xs)) last))

pub EachAfter-at : {X : Type 0} (P : List X → X → Type 0) (before xs : List X) (i : ℕ) (x : X) → EachAfter P before xs → slice_get xs i ≡ Some x → P (before ++ take i xs) x
EachAfter-at P before [] i x each at = absurd (none-some x at)
EachAfter-at {X} P before (y ∷ xs) zero x each at = subst (λ (zs : List X). P zs x) (sym (append-nil before)) (subst (P before) (same_Some y x at) each.0)
EachAfter-at {X} P before (y ∷ xs) (suc i) x each at =
    subst (λ (zs : List X). P zs x) (append_assoc before (y ∷ []) (take i xs)) (EachAfter-at P (before ++ y ∷ []) xs i x each.1 at)
