-- The order of names in which '-' and '_' are the same.
use Rattle.std.proofs.Common.{◌≡◌, ℕ, ◌+◌, ◌-◌, ◌<◌, ◌≤◌, ◌⊎◌, [], ◌∷◌, length, drop, get_or, Ordering, Less, Equal, Greater, inl, inr, refl, sym, ap, ◌∙◌, arith}
use Rattle.std.proofs.lemmas.Bool.Decides.{nat_tests}
use Rattle.std.proofs.lemmas.Cmp.{on_total, nat_list_cmp_total}
use Rattle.std.proofs.lemmas.List.{at_drop_more, length-drop, length-map}
use Rattle.std.specs.Cmp.{IsTotalOrder}
use Rattle.std.specs.Cmp.Lexicographic.{slice_cmp}
use Rattle.std.specs.Ordering.{nat_cmp, ordering_then}
use Rattle.krates_cm.specs.Document.{Text}
use Rattle.krates_document.specs.FoldedNames.{folded, folded_byte, folded_order, name_cmp}
use Rattle.krates_document.specs.declared.folded_name.FoldedName.{FoldedName}

pub names_total : IsTotalOrder name_cmp
names_total = on_total (λ (n : FoldedName). n.text.now) (on_total folded nat_list_cmp_total)

-- one byte of each is compared
step_order : (xs ys : Text) (i d e : ℕ) → i < length xs → i < length ys
    → folded_order (drop i xs) (drop i ys) ≡ ordering_then (nat_cmp (folded_byte (get_or xs i d)) (folded_byte (get_or ys i e))) (folded_order (drop (i + 1) xs) (drop (i + 1) ys))
step_order xs ys i d e lt below =
    at_drop_more (λ (zs : Text). folded_order zs (drop i ys)) xs i d lt ∙ at_drop_more (λ (zs : Text). folded_order (get_or xs i d ∷ drop (i + 1) xs) zs) ys i e below

-- as the code compares them
pub step_more : (xs ys : Text) (i a b : ℕ) (o : Ordering) → i < length xs → i < length ys → a ≡ folded_byte (get_or xs i 0) → b ≡ folded_byte (get_or ys i 0) → o ≡ nat_cmp a b
    → folded_order (drop i xs) (drop i ys) ≡ ordering_then o (folded_order (drop (i + 1) xs) (drop (i + 1) ys))
step_more xs ys i a b o lt below x y is =
    let rest = folded_order (drop (i + 1) xs) (drop (i + 1) ys) in
    let same = is ∙ ap (λ n. nat_cmp n b) x ∙ ap (λ n. nat_cmp (folded_byte (get_or xs i 0)) n) y in
    step_order xs ys i 0 0 lt below ∙ ap (λ r. ordering_then r rest) (sym same)

-- bytes that differ decide the order
pub decided : (o rest : Ordering) → (o ≡ Equal → ⊥) → ordering_then o rest ≡ o
decided Less rest other = refl
decided Equal rest other = absurd (other refl)
decided Greater rest other = refl

-- where one name has ended, the remaining lengths decide
one_ended : (xs ys : Text) → (length xs ≡ 0) ⊎ (length ys ≡ 0) → slice_cmp nat_cmp xs ys ≡ nat_cmp (length xs) (length ys)
one_ended [] [] h = refl
one_ended [] (y ∷ ys) h = grind (arith, nat_tests)
one_ended (x ∷ xs) [] h = grind (arith, nat_tests)
one_ended (x ∷ xs) (y ∷ ys) h = elim h [ inl e ↦ absurd (omega (arith, e)) | inr e ↦ absurd (omega (arith, e)) ]

same_rest : (a b n : ℕ) → n ≤ a → n ≤ b → nat_cmp (a - n) (b - n) ≡ nat_cmp a b
same_rest a b n low below = grind (arith, nat_tests)

pub end_order : (xs ys : Text) (n : ℕ) → n ≤ length xs → n ≤ length ys → (n ≡ length xs) ⊎ (n ≡ length ys) → folded_order (drop n xs) (drop n ys) ≡ nat_cmp (length xs) (length ys)
end_order xs ys n low below h =
    let left = length-map (drop n xs) folded_byte ∙ length-drop n xs in
    let right = length-map (drop n ys) folded_byte ∙ length-drop n ys in
    let none : (length (folded (drop n xs)) ≡ 0) ⊎ (length (folded (drop n ys)) ≡ 0) = elim h [ inl e ↦ inl (omega (arith, left, e)) | inr e ↦ inr (omega (arith, right, e)) ] in
    one_ended (folded (drop n xs)) (folded (drop n ys)) none ∙ ap (λ k. nat_cmp k (length (folded (drop n ys)))) left ∙ ap (nat_cmp (length xs - n)) right ∙ same_rest (length xs) (length ys) n low below
