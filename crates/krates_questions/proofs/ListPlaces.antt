-- What is found at a place of a vector of lists.
use Rattle.std.proofs.Common.{◌≡◌, ℕ, ◌<◌, List, length, map, get_or, Some, option_map, refl, sym, ap, ◌∙◌, arith, subst}
use Rattle.std.proofs.lemmas.List.{length-map}
use Rattle.std.proofs.lemmas.Option.{slice_get-map, slice_get_read, slice_get_within, same_Some}
use Rattle.std.specs.Global.{Vec}
use Rattle.std.specs.List.{AllZip, slice_get}
use Rattle.std.specs.Vec.{vec_len}
use Rattle.krates_rules.proofs.Readings.{right_of}
use Rattle.krates_questions.proofs.NodeParts.{within_vec}

-- what is at a place of the lists
pub list_at : {B : Type 0} (lists : Vec (Vec B)) (place : ℕ) (v : Vec B) (list : List B) → slice_get (map (λ (u : Vec B). u.items) lists.items) place ≡ Some list → v ≡ get_or lists.items place v → list ≡ v.items
list_at {B} lists place v list at is =
    let items : Vec B → List B = λ u. u.items in
    let lt : place < length lists.items = omega (arith, slice_get_within (map items lists.items) place list at, length-map lists.items items) in
    let here : slice_get (map items lists.items) place ≡ Some v.items = slice_get-map items lists.items place ∙ ap (option_map items) (slice_get_read lists.items (length lists.items) place v refl lt is) in
    same_Some list v.items (sym at ∙ here)

pub list_within : {B : Type 0} (lists : Vec (Vec B)) (place : ℕ) (list : List B) → slice_get (map (λ (u : Vec B). u.items) lists.items) place ≡ Some list → place < vec_len lists
list_within {B} lists place list at =
    let items : Vec B → List B = λ u. u.items in
    within_vec lists place (omega (arith, slice_get_within (map items lists.items) place list at, length-map lists.items items))

-- what is found at a place of the lists
pub names_at : {A B : Type 0} (R : A → List B → Type 0) (xs : List A) (lists : Vec (Vec B)) (place : ℕ) (x : A) (v : Vec B) → AllZip R xs (map (λ (u : Vec B). u.items) lists.items) → slice_get xs place ≡ Some x
    → v ≡ get_or lists.items place v → R x v.items
names_at {A} {B} R xs lists place x v z at is =
    let w = right_of R xs (map (λ (u : Vec B). u.items) lists.items) place x z at in
    subst (R x) (list_at lists place v w.0 w.1 is) w.2

pub names_within : {A B : Type 0} (R : A → List B → Type 0) (xs : List A) (lists : Vec (Vec B)) (place : ℕ) (x : A) → AllZip R xs (map (λ (u : Vec B). u.items) lists.items) → slice_get xs place ≡ Some x → place < vec_len lists
names_within {A} {B} R xs lists place x z at = let w = right_of R xs (map (λ (u : Vec B). u.items) lists.items) place x z at in list_within lists place w.0 w.1
