-- Lists of words that are compared word by word.
use Rattle.std.proofs.Common.{◌≡◌, ◌↔◌, List, [], ◌∷◌, map, Bool, true, false, ◌&&◌, IsTrue, String, Global, refl, sym, ap, ◌∙◌}
use Rattle.std.specs.Cmp.Lexicographic.{pointwise, bytes_decides}
use Rattle.std.specs.String.{string_eq}
use Rattle.krates_cm.specs.Document.{Text, text_view}

both_true : (a b : Bool) → (a && b) ≡ true → (a ≡ true) × (b ≡ true)
both_true true true h = (refl, refl)
both_true true false h = absurd cc
both_true false b h = absurd cc

words_to : (xs ys : List (String Global)) → pointwise string_eq xs ys ≡ true → map text_view xs ≡ map text_view ys
words_to [] [] h = refl
words_to [] (y ∷ ys) h = absurd cc
words_to (x ∷ xs) [] h = absurd cc
words_to (x ∷ xs) (y ∷ ys) h =
    let w = both_true (string_eq x y) (pointwise string_eq xs ys) h in
    let first : text_view x ≡ text_view y = (bytes_decides (text_view x) (text_view y)).0 w.0 in
    ap (λ (t : Text). t ∷ map text_view xs) first ∙ ap (λ (ts : List Text). text_view y ∷ ts) (words_to xs ys w.1)

words_from : (xs ys : List (String Global)) → map text_view xs ≡ map text_view ys → pointwise string_eq xs ys ≡ true
words_from [] [] e = refl
words_from [] (y ∷ ys) e = absurd cc
words_from (x ∷ xs) [] e = absurd cc
words_from (x ∷ xs) (y ∷ ys) e =
    let first : text_view x ≡ text_view y = cc in
    let rest : map text_view xs ≡ map text_view ys = cc in
    let same : string_eq x y ≡ true = (bytes_decides (text_view x) (text_view y)).1 first in
    rw (same, words_from xs ys rest) refl

-- the test of two lists tells whether they have the same texts
pub words_tell : (xs ys : List (String Global)) (b : Bool) → b ≡ pointwise string_eq xs ys → IsTrue b ↔ (map text_view xs ≡ map text_view ys)
words_tell xs ys b is = (λ t. words_to xs ys (sym is ∙ t), λ e. is ∙ words_from xs ys e)
