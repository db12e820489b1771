-- What a function picks from lists: which elements, and in which order.
use Rattle.std.proofs.Common.{◌≡◌, List, [], ◌∷◌, ◌++◌, Option, Some, None, Ordering, Less, map, refl, sym, ap, ◌∙◌, subst, inl, inr}
use Rattle.std.specs.List.{AllByRecursion, cons_option, filter_map}
use Rattle.std.specs.List.Sorted.{IsStrictlySortedBy}
use Rattle.krates_rules.proofs.Members.{Member}
use Rattle.krates_built.specs.FactLists.{with_one}

-- ---- which elements

module _ {A B : Type 0} (p : A → Option B) where
  from_step : (x : A) (xs : List A) (y : B) (o : Option B) → p x ≡ o → (Member (filter_map p xs) y → (z : A) × Member xs z × (p z ≡ Some y))
      → Member (cons_option o (filter_map p xs)) y → (z : A) × Member (x ∷ xs) z × (p z ≡ Some y)
  from_step x xs y None e more m = let w = more m in (w.0, inr w.1, w.2)
  from_step x xs y (Some b) e more (inl is) = (x, inl refl, e ∙ ap (λ (z : B). Some z) is)
  from_step x xs y (Some b) e more (inr m) = let w = more m in (w.0, inr w.1, w.2)

  -- what is picked is picked from an element
  pub picked_from : (xs : List A) (y : B) → Member (filter_map p xs) y → (z : A) × Member xs z × (p z ≡ Some y)
  picked_from [] y m = absurd m
  picked_from (x ∷ xs) y m = from_step x xs y (p x) refl (picked_from xs y) m

  behind : (o : Option B) (ys : List B) (y : B) → Member ys y → Member (cons_option o ys) y
  behind None ys y m = m
  behind (Some z) ys y m = inr m

  -- what is picked from an element is picked
  pub picked_of : (xs : List A) (x : A) (y : B) → Member xs x → p x ≡ Some y → Member (filter_map p xs) y
  picked_of [] x y m e = absurd m
  picked_of (z ∷ xs) x y (inl is) e = subst (λ (o : Option B). Member (cons_option o (filter_map p xs)) y) (sym (ap p is ∙ e)) (inl refl)
  picked_of (z ∷ xs) x y (inr m) e = behind (p z) (filter_map p xs) y (picked_of xs x y m e)

  -- ---- one more

  past : (o : Option B) (ys : List B) (q : Option B) → cons_option o (with_one ys q) ≡ with_one (cons_option o ys) q
  past None ys q = refl
  past (Some z) ys None = refl
  past (Some z) ys (Some y) = refl

  alone : (o : Option B) → cons_option o [] ≡ with_one [] o
  alone None = refl
  alone (Some z) = refl

  pub picked_more : (xs : List A) (x : A) → filter_map p (xs ++ x ∷ []) ≡ with_one (filter_map p xs) (p x)
  picked_more [] x = alone (p x)
  picked_more (y ∷ xs) x = ap (cons_option (p y)) (picked_more xs x) ∙ past (p y) (filter_map p xs) (p x)

-- from what a function makes of the elements
pub picked_map : {A B C : Type 0} (p : B → Option C) (v : A → B) (xs : List A) → filter_map p (map v xs) ≡ filter_map (λ x. p (v x)) xs
picked_map p v [] = refl
picked_map p v (x ∷ xs) = ap (cons_option (p (v x))) (picked_map p v xs)

-- ---- in which order

module _ {A B : Type 0} (R : A → A → Ordering) (S : B → B → Ordering) (p : A → Option B)
    (keeps : (a b : A) (x y : B) → p a ≡ Some x → p b ≡ Some y → R a b ≡ Less → S x y ≡ Less) where
  above_step : (a b : A) (x : B) (ys : List B) (o : Option B) → p a ≡ Some x → p b ≡ o → R a b ≡ Less → AllByRecursion (λ y. S x y ≡ Less) ys
      → AllByRecursion (λ y. S x y ≡ Less) (cons_option o ys)
  above_step a b x ys None e f less more = more
  above_step a b x ys (Some y) e f less more = (keeps a b x y e f less, more)

  above : (a : A) (x : B) (xs : List A) → p a ≡ Some x → AllByRecursion (λ b. R a b ≡ Less) xs → AllByRecursion (λ y. S x y ≡ Less) (filter_map p xs)
  above a x [] e h = tt
  above a x (b ∷ xs) e h = above_step a b x (filter_map p xs) (p b) e refl h.0 (above a x xs e h.1)

  sorted_step : (a : A) (xs : List A) (o : Option B) → p a ≡ o → AllByRecursion (λ b. R a b ≡ Less) xs → IsStrictlySortedBy S (filter_map p xs)
      → IsStrictlySortedBy S (cons_option o (filter_map p xs))
  unfolding IsStrictlySortedBy
  sorted_step a xs None e h more = more
  sorted_step a xs (Some x) e h more = (above a x xs e h, more)

  -- what is picked from a list in order is in order
  pub picked_sorted : (xs : List A) → IsStrictlySortedBy R xs → IsStrictlySortedBy S (filter_map p xs)
  unfolding IsStrictlySortedBy
  picked_sorted [] h = tt
  picked_sorted (x ∷ xs) h = sorted_step x xs (p x) refl h.0 (picked_sorted xs h.1)
