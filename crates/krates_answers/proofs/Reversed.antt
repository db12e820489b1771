-- A list turned round: under a map, under a filter, and as a stack that is read from its top.
use Rattle.std.proofs.Common.{◌≡◌, List, [], ◌∷◌, ◌++◌, Bool, true, false, cond, filter, map, reverse, refl, sym, ap, ◌∙◌}
use Rattle.std.proofs.lemmas.List.{append-nil, map-append, reverse-append, reverse-reverse}
use Rattle.std.proofs.lemmas.List.Elements.{filter-append}

pub map-reverse : {X Y : Type 0} (f : X → Y) (xs : List X) → map f (reverse xs) ≡ reverse (map f xs)
map-reverse f [] = refl
map-reverse {X} {Y} f (x ∷ xs) =
    ap (map f) (reverse-append (x ∷ []) xs) ∙ map-append f (reverse xs) (x ∷ []) ∙ ap (λ (ys : List Y). ys ++ f x ∷ []) (map-reverse f xs) ∙ sym (reverse-append (f x ∷ []) (map f xs))

-- one more element in front, kept or not
turned_step : {X : Type 0} (x : X) (xs : List X) (t : Bool) → reverse xs ++ cond t (x ∷ []) [] ≡ reverse (cond t (x ∷ xs) xs)
turned_step x xs true = sym (reverse-append (x ∷ []) xs)
turned_step x xs false = append-nil (reverse xs)

pub filter-reverse : {X : Type 0} (p : X → Bool) (xs : List X) → filter p (reverse xs) ≡ reverse (filter p xs)
filter-reverse p [] = refl
filter-reverse {X} p (x ∷ xs) =
    ap (filter p) (reverse-append (x ∷ []) xs) ∙ filter-append p (reverse xs) (x ∷ []) ∙ ap (λ (ys : List X). ys ++ filter p (x ∷ [])) (filter-reverse p xs) ∙ turned_step x (filter p xs) (p x)

-- ---- a stack, read from its top

pub reverse-popped : {X : Type 0} (old new : List X) (x : X) → old ≡ new ++ x ∷ [] → reverse old ≡ x ∷ reverse new
reverse-popped old new x e = ap reverse e ∙ reverse-append new (x ∷ [])

pub reverse-pushed : {X Y : Type 0} (f : Y → X) (xs : List X) (ys : List Y) → reverse (xs ++ map f (reverse ys)) ≡ map f ys ++ reverse xs
reverse-pushed {X} f xs ys =
    reverse-append xs (map f (reverse ys)) ∙ ap (λ (zs : List X). zs ++ reverse xs) (sym (map-reverse f (reverse ys)) ∙ ap (map f) (reverse-reverse ys))
