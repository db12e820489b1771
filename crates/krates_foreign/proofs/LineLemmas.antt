-- The pieces of a list, one by one.
use Rattle.std.proofs.Common.{◌≡◌, ℕ, ◌+◌, ◌<◌, List, [], ◌∷◌, ◌++◌, length, get_or, take, sym, ap, ◌∙◌}
use Rattle.std.proofs.lemmas.Grind.{flat_map-append}
use Rattle.std.proofs.lemmas.List.{append-nil, take_more}
use Rattle.std.specs.List.{flat_map}
use Rattle.krates_cm.specs.Document.{Text}

-- one more piece
pub pieces_more : {X : Type 0} (f : X → Text) (xs : List X) (i : ℕ) (x : X) → i < length xs → x ≡ get_or xs i x → flat_map f (take i xs) ++ f x ≡ flat_map f (take (i + 1) xs)
pieces_more {X} f xs i x lt is =
    let more : take (i + 1) xs ≡ take i xs ++ x ∷ [] = take_more xs i x lt ∙ ap (λ (y : X). take i xs ++ y ∷ []) (sym is) in
    sym (ap (flat_map f) more ∙ flat_map-append f (take i xs) (x ∷ []) ∙ ap (λ (t : Text). flat_map f (take i xs) ++ t) (append-nil (f x)))
