-- Sorted lists of strings, and the lists of their texts.
use Rattle.std.proofs.Common.{◌≡◌, ℕ, zero, suc, ◌<◌, List, [], ◌∷◌, length, get_or, map, Contains, String, refl, ap, sym, subst, arith}
use Rattle.std.proofs.lemmas.List.Kept.{Any-dedup, Contains-from_dedup, IsStrictlySortedBy-dedup}
use Rattle.std.proofs.lemmas.List.Sorted.{Contains-permutation, IsPermutation-sym}
use Rattle.std.proofs.lemmas.Slice.Eq.{bytes_eq-Decides}
use Rattle.std.specs.List.{AllByRecursion, dedup}
use Rattle.std.specs.List.Sorted.{IsPermutation, IsSorted, IsStrictlySortedBy}
use Rattle.std.specs.Cmp.Lexicographic.{slice_cmp, texts_ties}
use Rattle.std.specs.Ordering.{nat_cmp}
use Rattle.std.specs.String.{string_bytes, string_cmp, string_cmp_total, string_eq, string_eq_equiv}
use Rattle.std.specs.declared.alloc.Global.{Global}
use Rattle.std.specs.declared.cmp.Ordering.TheVariants.{Less}
use Rattle.krates_cm.specs.Document.{Text, text_view}
use Rattle.krates_cargo.specs.CargoOptions.{IsInOrder}

-- ---- elements of a list under a map

at_map : {X Y : Type 0} (f : X → Y) (xs : List X) (x : X) (k : ℕ) → k < length xs → get_or xs k x ≡ x → Contains (map f xs) (f x)
at_map f [] x k lt e = absurd (omega arith)
at_map f (z ∷ zs) x zero lt e = (zero, omega arith, ap f e)
at_map f (z ∷ zs) x (suc k) lt e = let w = at_map f zs x k (omega arith) e in (suc w.0, omega (arith, w.1), w.2)

pub mapped : {X Y : Type 0} (f : X → Y) (xs : List X) (x : X) → Contains xs x → Contains (map f xs) (f x)
mapped f xs x c = at_map f xs x c.0 c.1 c.2

-- an element that the function maps to this one
pub record From {X Y : Type 0} (f : X → Y) (xs : List X) (y : Y) : Type 0 where
  pub from : X
  pub among : Contains xs from
  pub is : f from ≡ y

from_at : {X Y : Type 0} (f : X → Y) (xs : List X) (y : Y) (k : ℕ) → k < length (map f xs) → get_or (map f xs) k y ≡ y → From f xs y
from_at f [] y k lt e = absurd (omega arith)
from_at f (x ∷ xs) y zero lt e = record { from = x; among = (zero, omega arith, refl); is = e }
from_at f (x ∷ xs) y (suc k) lt e =
    let w = from_at f xs y k (omega arith) e in
    record { from = w.from; among = (suc w.among.0, omega (arith, w.among.1), w.among.2); is = w.is }

pub from_mapped : {X Y : Type 0} (f : X → Y) (xs : List X) (y : Y) → Contains (map f xs) y → From f xs y
from_mapped f xs y c = from_at f xs y c.0 c.1 c.2

-- ---- order

all_texts : (P : Text → Type 0) (xs : List (String Global)) → AllByRecursion (λ s. P (text_view s)) xs → AllByRecursion P (map text_view xs)
all_texts P [] h = tt
all_texts P (x ∷ xs) h = (h.0, all_texts P xs h.1)

pub texts_rise : (xs : List (String Global)) → IsStrictlySortedBy string_cmp xs → IsStrictlySortedBy (slice_cmp nat_cmp) (map text_view xs)
unfolding IsStrictlySortedBy
texts_rise [] h = tt
texts_rise (x ∷ xs) h = (all_texts (λ t. slice_cmp nat_cmp (text_view x) t ≡ Less) xs h.0, texts_rise xs h.1)

-- ---- sorted without doubles

-- of the elements that equal this one, one is left, and it has the same text
left_of : (xs : List (String Global)) (x : String Global) → Contains xs x → Contains (map text_view (dedup string_eq xs)) (text_view x)
left_of xs x c =
    let a = Any-dedup string_eq_equiv xs x c in
    let same : text_view (a.1) ≡ text_view x = sym ((bytes_eq-Decides (string_bytes x) (string_bytes a.1)).0 a.4) in
    subst (λ t. Contains (map text_view (dedup string_eq xs)) t) same (mapped text_view _ a.1 (a.0, a.2, a.3))

pub in_order_of : (given : List Text) (copies sorted left : List (String Global)) → map text_view copies ≡ given → IsPermutation copies sorted → IsSorted string_cmp sorted
    → left ≡ dedup string_eq sorted → IsInOrder given (map text_view left)
in_order_of given copies sorted left copied permuted is_sorted is = record {
  rises = texts_rise _ (subst (IsStrictlySortedBy string_cmp) (sym is) (IsStrictlySortedBy-dedup string_cmp_total (λ x y. texts_ties (string_bytes x) (string_bytes y)) _ is_sorted));
  same = λ name. (
    (λ h. let w = from_mapped text_view left name h in
        let among : Contains copies w.from = Contains-permutation _ _ w.from (IsPermutation-sym _ _ permuted) (Contains-from_dedup string_eq _ w.from (subst (λ zs. Contains zs w.from) is w.among)) in
        subst (λ ts. Contains ts name) copied (subst (Contains (map text_view copies)) w.is (mapped text_view copies w.from among))),
    (λ h. let w = from_mapped text_view copies name (subst (λ ts. Contains ts name) (sym copied) h) in
        subst (λ zs. Contains (map text_view zs) name) (sym is) (subst (Contains (map text_view (dedup string_eq sorted))) w.is (left_of sorted w.from (Contains-permutation _ _ w.from permuted w.among)))),
  );
}
