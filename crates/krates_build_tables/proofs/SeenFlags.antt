-- What holds of each element of a list that was gone over.
use Rattle.std.proofs.Common.{◌≡◌, ℕ, ◌<◌, ◌≤◌, List, length, get_or, Contains, sym, subst, arith}
use Rattle.krates_rules.proofs.Seen.{SeenBelow}

pub seen_in : {A : Type 0} (P : A → Type 0) (xs : List A) (i : ℕ) → length xs ≤ i → SeenBelow P xs i → (x : A) → Contains xs x → P x
seen_in P xs i le h x (k, lt, is) = subst P is (h k x (omega arith))

-- an element that was read at a place is in the list
pub contains_item : {A : Type 0} (xs : List A) (k : ℕ) (x : A) → k < length xs → x ≡ get_or xs k x → Contains xs x
contains_item xs k x lt is = (k, lt, sym is)
