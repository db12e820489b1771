-- A sorted list is sorted by a view, where the two orders agree.
use Rattle.std.proofs.Common.{◌≡◌, List, [], ◌∷◌, map, Ordering, Less, Equal, Greater, refl, ◌∙◌}
use Rattle.std.specs.Bool.{⊤}
use Rattle.std.specs.Cmp.{IsTotalOrder}
use Rattle.std.specs.List.{AllByRecursion}
use Rattle.std.specs.List.Sorted.{IsStrictlySortedBy}
use Rattle.std.specs.Ordering.{ordering_reverse}

same_equal : (r : Ordering) → r ≡ ordering_reverse r → r ≡ Equal
same_equal Less h = absurd cc
same_equal Equal h = refl
same_equal Greater h = absurd cc

pub equal_self : {K : Type 0} {R : K → K → Ordering} → IsTotalOrder R → (x : K) → R x x ≡ Equal
equal_self {K} {R} o x = same_equal (R x x) (o.antisymm x x)

-- a view carries the order over where the two orders agree
all_seen : {A B : Type 0} (R : A → A → Ordering) (S : B → B → Ordering) (f : A → B) (P : A → Type 0) → ((a b : A) → P a → P b → S (f a) (f b) ≡ R a b)
    → (x : A) (xs : List A) → P x → AllByRecursion P xs → AllByRecursion (λ y. R x y ≡ Less) xs → AllByRecursion (λ y. S (f x) y ≡ Less) (map f xs)
all_seen R S f P same x [] p ps h = tt
all_seen R S f P same x (y ∷ ys) p ps h = (same x y p ps.0 ∙ h.0, all_seen R S f P same x ys p ps.1 h.1)

pub sorted_seen : {A B : Type 0} (R : A → A → Ordering) (S : B → B → Ordering) (f : A → B) (P : A → Type 0) → ((a b : A) → P a → P b → S (f a) (f b) ≡ R a b)
    → (xs : List A) → AllByRecursion P xs → IsStrictlySortedBy R xs → IsStrictlySortedBy S (map f xs)
unfolding IsStrictlySortedBy
sorted_seen R S f P same [] ps h = tt
sorted_seen R S f P same (x ∷ xs) ps h = (all_seen R S f P same x xs ps.0 ps.1 h.0, sorted_seen R S f P same xs ps.1 h.1)

-- the other direction
all_unseen : {A B : Type 0} (S : B → B → Ordering) (f : A → B) (y : B) (xs : List A) → AllByRecursion (λ x. S y x ≡ Less) (map f xs) → AllByRecursion (λ x. S y (f x) ≡ Less) xs
all_unseen S f y [] h = tt
all_unseen S f y (x ∷ xs) h = (h.0, all_unseen S f y xs h.1)

pub sorted_unseen : {A B : Type 0} (S : B → B → Ordering) (f : A → B) (xs : List A) → IsStrictlySortedBy S (map f xs) → IsStrictlySortedBy (λ a b. S (f a) (f b)) xs
unfolding IsStrictlySortedBy
sorted_unseen S f [] h = tt
sorted_unseen S f (x ∷ xs) h = (all_unseen S f (f x) xs h.0, sorted_unseen S f xs h.1)

each_true : {A : Type 0} (xs : List A) → AllByRecursion (λ x. ⊤) xs
each_true [] = tt
each_true (x ∷ xs) = (tt, each_true xs)

-- where the two orders agree everywhere
pub sorted_same : {A B : Type 0} (R : A → A → Ordering) (S : B → B → Ordering) (f : A → B) → ((a b : A) → S (f a) (f b) ≡ R a b) → (xs : List A) → IsStrictlySortedBy R xs → IsStrictlySortedBy S (map f xs)
sorted_same R S f same xs h = sorted_seen R S f (λ x. ⊤) (λ a b p q. same a b) xs (each_true xs) h
