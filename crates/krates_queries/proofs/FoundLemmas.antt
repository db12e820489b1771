-- Loops that find something for some elements of a list: what is found so far, then what is in the elements left, is all.
use Rattle.std.proofs.Common.{◌≡◌, ℕ, suc, ◌+◌, ◌<◌, ◌≤◌, List, ◌∷◌, ◌++◌, length, get_or, drop, drop-cons, Option, Some, None, refl, sym, ap, ◌∙◌, append-nil, append_assoc, arith}
use Rattle.std.proofs.lemmas.List.{drop_all}
use Rattle.std.specs.List.{cons_option, filter_map}
use Rattle.krates_drawing.specs.Views.{listed}

in_front_of : {A : Type 0} (o : Option A) (xs : List A) → listed o ++ xs ≡ cons_option o xs
in_front_of None xs = refl
in_front_of (Some x) xs = refl

-- the elements left begin with the one at place i
pub first_left : {A : Type 0} (xs : List A) (i : ℕ) (x : A) → i < length xs → x ≡ get_or xs i x → drop i xs ≡ x ∷ drop (i + 1) xs
first_left xs i x within is =
    let next : suc i ≡ i + 1 = omega arith in
    drop-cons xs i x within ∙ ap (λ y. y ∷ drop (suc i) xs) (sym is) ∙ ap (λ k. x ∷ drop k xs) next

-- with the element at place i there is one element less left
pub one_more : {A B : Type 0} (f : A → Option B) (xs : List A) (i : ℕ) (x : A) (found more all : List B) → i < length xs → x ≡ get_or xs i x
    → found ++ filter_map f (drop i xs) ≡ all → more ≡ found ++ listed (f x) → more ++ filter_map f (drop (i + 1) xs) ≡ all
one_more f xs i x found more all within is before new =
    let left = filter_map f (drop (i + 1) xs) in
    ap (λ ys. ys ++ left) new ∙ append_assoc found (listed (f x)) left ∙ ap (λ ys. found ++ ys) (in_front_of (f x) left)
    ∙ ap (λ ys. found ++ filter_map f ys) (sym (first_left xs i x within is)) ∙ before

-- with no element left all is found
pub all_found : {A B : Type 0} (f : A → Option B) (xs : List A) (i : ℕ) (found all : List B) → length xs ≤ i → found ++ filter_map f (drop i xs) ≡ all → found ≡ all
all_found f xs i found all past before = sym (append-nil found) ∙ ap (λ ys. found ++ filter_map f ys) (sym (drop_all i xs past)) ∙ before
