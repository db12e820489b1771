-- Two matching lists, the first of which is permuted: the second can be permuted to match it.
use Rattle.std.proofs.Common.{◌≡◌, ℕ, zero, suc, ◌<◌, List, [], ◌∷◌, length, get_or, IsPermutation, ap, arith, refl}
use Rattle.std.proofs.lemmas.List.Sorted.{IsPermutation-keeps, IsPermutation-refl, length_permutation as length_moved}
use Rattle.std.specs.List.{AllZip, slice_set, swap}

-- matching lists are equally long
pub zip_long : {A B : Type 0} (R : A → B → Type 0) (xs : List A) (us : List B) → AllZip R xs us → length us ≡ length xs
zip_long R [] [] z = refl
zip_long R [] (u ∷ us) z = absurd z
zip_long R (x ∷ xs) [] z = absurd z
zip_long R (x ∷ xs) (u ∷ us) z = ap suc (zip_long R xs us z.1)

get_zip : {A B : Type 0} (R : A → B → Type 0) (xs : List A) (us : List B) (i : ℕ) (d : A) (e : B) → AllZip R xs us → i < length xs → R (get_or xs i d) (get_or us i e)
get_zip R [] us i d e z lt = absurd (omega arith)
get_zip R (x ∷ xs) [] i d e z lt = absurd z
get_zip R (x ∷ xs) (u ∷ us) zero d e z lt = z.0
get_zip R (x ∷ xs) (u ∷ us) (suc i) d e z lt = get_zip R xs us i d e z.1 (omega arith)

set_zip : {A B : Type 0} (R : A → B → Type 0) (xs : List A) (us : List B) (i : ℕ) (x : A) (u : B) → AllZip R xs us → R x u → AllZip R (slice_set xs i x) (slice_set us i u)
set_zip R [] [] i x u z r = tt
set_zip R [] (v ∷ us) i x u z r = absurd z
set_zip R (y ∷ xs) [] i x u z r = absurd z
set_zip R (y ∷ xs) (v ∷ us) zero x u z r = (r, z.1)
set_zip R (y ∷ xs) (v ∷ us) (suc i) x u z r = (z.0, set_zip R xs us i x u z.1 r)

swap_zip : {A B : Type 0} (R : A → B → Type 0) (xs : List A) (us : List B) (i j : ℕ) → i < length xs → j < length xs → AllZip R xs us → AllZip R (swap xs i j) (swap us i j)
swap_zip R [] [] i j li lj z = tt
swap_zip R [] (u ∷ us) i j li lj z = absurd z
swap_zip R (x ∷ xs) [] i j li lj z = absurd z
swap_zip R (x ∷ xs) (u ∷ us) i j li lj z =
    let one = set_zip R (x ∷ xs) (u ∷ us) i (get_or (x ∷ xs) j x) (get_or (u ∷ us) j u) z (get_zip R (x ∷ xs) (u ∷ us) j x u z lj) in
    set_zip R (slice_set (x ∷ xs) i (get_or (x ∷ xs) j x)) (slice_set (u ∷ us) i (get_or (u ∷ us) j u)) j (get_or (x ∷ xs) i x) (get_or (u ∷ us) i u) one (get_zip R (x ∷ xs) (u ∷ us) i x u z li)

-- the second list, permuted to match `ys`
pub record MovedZip {A B : Type 0} (R : A → B → Type 0) (ys : List A) (us : List B) : Type 0 where
  pub list : List B
  pub zip : AllZip R ys list
  pub moved : IsPermutation us list

pub moved_zip : {A B : Type 0} (R : A → B → Type 0) (xs ys : List A) (us : List B) → IsPermutation xs ys → AllZip R xs us → MovedZip R ys us
moved_zip {B = B} R xs ys us moved z =
    let start : MovedZip R xs us = record { list = us; zip = z; moved = IsPermutation-refl us } in
    IsPermutation-keeps xs (λ l. MovedZip R l us) start (λ l i j li lj w.
    let long = zip_long R l w.list w.zip in
    let shorter : length w.list ≡ length us = length_moved us w.list w.moved in
    record {
      list = swap w.list i j;
      zip = swap_zip R l w.list i j li lj w.zip;
      moved = record {
        moves = (i, j) ∷ w.moved.moves;
        below = (omega (arith, li, long, shorter), omega (arith, lj, long, shorter), w.moved.below);
        is = ap (λ (k : List B). swap k i j) w.moved.is;
      };
    }) ys moved

-- two lists that match a third match each other
pub zipped_through : {A B C : Type 0} (R : A → B → Type 0) (S : A → C → Type 0) (T : B → C → Type 0) (xs : List A) (us : List B) (vs : List C) → AllZip R xs us → AllZip S xs vs
    → ((a : A) (b : B) (c : C) → R a b → S a c → T b c) → AllZip T us vs
zipped_through R S T [] [] [] r s h = tt
zipped_through R S T [] [] (v ∷ vs) r s h = absurd s
zipped_through R S T [] (u ∷ us) vs r s h = absurd r
zipped_through R S T (x ∷ xs) [] vs r s h = absurd r
zipped_through R S T (x ∷ xs) (u ∷ us) [] r s h = absurd s
zipped_through R S T (x ∷ xs) (u ∷ us) (v ∷ vs) r s h = (h x u v r.0 s.0, zipped_through R S T xs us vs r.1 s.1 h)

pub zip_turned : {A B : Type 0} (R : A → B → Type 0) (S : B → A → Type 0) (xs : List A) (us : List B) → AllZip R xs us → ((a : A) (b : B) → R a b → S b a) → AllZip S us xs
zip_turned R S [] [] z h = tt
zip_turned R S [] (u ∷ us) z h = absurd z
zip_turned R S (x ∷ xs) [] z h = absurd z
zip_turned R S (x ∷ xs) (u ∷ us) z h = (h x u z.0, zip_turned R S xs us z.1 h)
