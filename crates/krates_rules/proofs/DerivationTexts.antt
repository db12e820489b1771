-- The lines of a derivation, and the numbers that a step uses, one by one.
use Rattle.std.proofs.Common.{◌≡◌, ℕ, suc, ◌+◌, ◌<◌, List, [], ◌∷◌, ◌++◌, length, get_or, take, codes, sym, ap, ◌∙◌, arith}
use Rattle.std.specs.Fmt.{decimal}
use Rattle.std.proofs.lemmas.List.{append-nil, append_assoc, length-take, take_more}
use Rattle.krates_cm.specs.Document.{Text}
use Rattle.krates_rules.specs.declared.derivation.Step.{Step}
use Rattle.krates_rules.specs.DerivationTexts.{further_uses, lines_from, step_line, uses_text}

lines_append : (k : ℕ) (xs : List Step) (x : Step) → lines_from k (xs ++ x ∷ []) ≡ lines_from k xs ++ step_line (k + length xs) x
lines_append k [] x =
    let e : k ≡ k + 0 = omega arith in
    append-nil (step_line k x) ∙ ap (λ (n : ℕ). step_line n x) e
lines_append k (y ∷ ys) x =
    let e : k + 1 + length ys ≡ k + suc (length ys) = omega arith in
    ap (λ (t : Text). step_line k y ++ t) (lines_append (k + 1) ys x ∙ ap (λ (n : ℕ). lines_from (k + 1) ys ++ step_line n x) e) ∙ sym (append_assoc (step_line k y) (lines_from (k + 1) ys) (step_line (k + suc (length ys)) x))

-- one more line
pub lines_more : (xs : List Step) (i : ℕ) (x : Step) → i < length xs → x ≡ get_or xs i x → lines_from 0 (take (i + 1) xs) ≡ lines_from 0 (take i xs) ++ step_line i x
lines_more xs i x lt is =
    let more : take (i + 1) xs ≡ take i xs ++ x ∷ [] = take_more xs i x lt ∙ ap (λ (y : Step). take i xs ++ y ∷ []) (sym is) in
    let long : 0 + length (take i xs) ≡ i = omega (arith, lt, length-take i xs) in
    ap (lines_from 0) more ∙ lines_append 0 (take i xs) x ∙ ap (λ (n : ℕ). lines_from 0 (take i xs) ++ step_line n x) long

further_append : (xs : List ℕ) (x : ℕ) → further_uses (xs ++ x ∷ []) ≡ further_uses xs ++ (codes ", " ++ decimal x)
further_append [] x = ap (λ (t : Text). codes ", " ++ t) (append-nil (decimal x))
further_append (y ∷ ys) x =
    ap (λ (t : Text). codes ", " ++ (decimal y ++ t)) (further_append ys x)
    ∙ ap (λ (t : Text). codes ", " ++ t) (sym (append_assoc (decimal y) (further_uses ys) (codes ", " ++ decimal x)))
    ∙ sym (append_assoc (codes ", ") (decimal y ++ further_uses ys) (codes ", " ++ decimal x))

-- one more number
further_more : (xs : List ℕ) (i : ℕ) → i < length xs → further_uses (take (i + 1) xs) ≡ further_uses (take i xs) ++ (codes ", " ++ decimal (get_or xs i 0))
further_more xs i lt = ap further_uses (take_more xs i 0 lt) ∙ further_append (take i xs) (get_or xs i 0)

pub uses_more : (x : ℕ) (xs : List ℕ) (i : ℕ) → i < length xs → uses_text (x ∷ take i xs) ++ (codes ", " ++ decimal (get_or xs i 0)) ≡ uses_text (x ∷ take (i + 1) xs)
uses_more x xs i lt =
    let so_far = further_uses (take i xs) in
    let one = codes ", " ++ decimal (get_or xs i 0) in
    append_assoc (codes " from ") (decimal x ++ so_far) one
    ∙ ap (λ (t : Text). codes " from " ++ t) (append_assoc (decimal x) so_far one ∙ ap (λ (t : Text). decimal x ++ t) (sym (further_more xs i lt)))
