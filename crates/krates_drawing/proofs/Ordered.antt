-- Of two strictly sorted lists, one whose elements are all in the other is a part of it; and if that holds both ways, they are equal.
use Rattle.std.proofs.Common.{◌≡◌, inl, inr, List, [], ◌∷◌, Ordering, Less, refl, sym, ap, ◌∙◌, subst}
use Rattle.std.specs.Cmp.{IsTotalOrder}
use Rattle.std.specs.List.{AllByRecursion}
use Rattle.std.specs.List.Sorted.{IsStrictlySortedBy}
use Rattle.krates_drawing.specs.Narrower.{IsPart, nothing, keeps, leaves_out}
use Rattle.krates_rules.proofs.Members.{Member}

-- each item of the first list is one of the second
abbrev pub IsWithin : {A : Type 0} → List A → List A → Type 0
IsWithin {A} xs ys = (x : A) → Member xs x → Member ys x

each : {A : Type 0} (P : A → Type 0) (xs : List A) (z : A) → AllByRecursion P xs → Member xs z → P z
each P [] z h m = absurd m
each P (x ∷ xs) z h (inl e) = subst P e h.0
each P (x ∷ xs) z h (inr m) = each P xs z h.1 m

strict : {A : Type 0} (c : A → A → Ordering) → IsTotalOrder c → (a b : A) → c a b ≡ Less → c b a ≡ Less → ⊥
strict c o a b l m = let e = o.antisymm a b in cc (e, l, m)

module _ {A : Type 0} (c : A → A → Ordering) (o : IsTotalOrder c) where
  -- the first element comes before each later one
  before : (x z : A) (xs : List A) → IsStrictlySortedBy c (x ∷ xs) → Member xs z → c x z ≡ Less
  unfolding IsStrictlySortedBy
  before x z xs h m = each (λ w. c x w ≡ Less) xs z h.0 m

  rest : (x : A) (xs : List A) → IsStrictlySortedBy c (x ∷ xs) → IsStrictlySortedBy c xs
  unfolding IsStrictlySortedBy
  rest x xs h = h.1

  -- behind equal first elements the others are in what comes later
  later_within : (x y : A) (xs ys : List A) → x ≡ y → IsStrictlySortedBy c (x ∷ xs) → IsWithin (x ∷ xs) (y ∷ ys) → IsWithin xs ys
  later_within x y xs ys same h all z m = elim (all z (inr m)) [
    | inl e ↦ absurd (let low = subst (λ w. c w z ≡ Less) (same ∙ e) (before x z xs h m) in strict c o z z low low)
    | inr later ↦ later
  ]

  -- if the first element comes later in the second list, all others do
  all_later : (x y : A) (xs ys : List A) → IsStrictlySortedBy c (x ∷ xs) → IsStrictlySortedBy c (y ∷ ys) → Member ys x → IsWithin (x ∷ xs) (y ∷ ys) → IsWithin (x ∷ xs) ys
  all_later x y xs ys hx hy at all z (inl e) = subst (Member ys) e at
  all_later x y xs ys hx hy at all z (inr m) = elim (all z (inr m)) [
    | inl e ↦ absurd (strict c o x z (before x z xs hx m) (subst (λ w. c w x ≡ Less) e (before y x ys hy at)))
    | inr later ↦ later
  ]

  pub part_within : (xs ys : List A) → IsStrictlySortedBy c xs → IsStrictlySortedBy c ys → IsWithin xs ys → IsPart xs ys
  part_within [] [] hx hy all = nothing
  part_within [] (y ∷ ys) hx hy all = leaves_out (part_within [] ys hx (rest y ys hy) (λ z m. absurd m))
  part_within (x ∷ xs) [] hx hy all = absurd (all x (inl refl))
  part_within (x ∷ xs) (y ∷ ys) hx hy all = elim (all x (inl refl)) [
    | inl e ↦ subst (λ z. IsPart (z ∷ xs) (y ∷ ys)) e (keeps (part_within xs ys (rest x xs hx) (rest y ys hy) (later_within x y xs ys (sym e) hx all)))
    | inr later ↦ leaves_out (part_within (x ∷ xs) ys hx (rest y ys hy) (all_later x y xs ys hx hy later all))
  ]

  -- two lists that are parts of each other begin alike
  first_same : (x y : A) (xs ys : List A) → IsStrictlySortedBy c (x ∷ xs) → IsStrictlySortedBy c (y ∷ ys) → IsWithin (x ∷ xs) (y ∷ ys) → IsWithin (y ∷ ys) (x ∷ xs) → x ≡ y
  first_same x y xs ys hx hy there back = elim (there x (inl refl)) [
    | inl e ↦ sym e
    | inr later ↦ elim (back y (inl refl)) [
      | inl e ↦ e
      | inr after ↦ absurd (strict c o x y (before x y xs hx after) (before y x ys hy later))
    ]
  ]

  pub same_lists : (xs ys : List A) → IsStrictlySortedBy c xs → IsStrictlySortedBy c ys → IsWithin xs ys → IsWithin ys xs → xs ≡ ys
  same_lists [] [] hx hy there back = refl
  same_lists [] (y ∷ ys) hx hy there back = absurd (back y (inl refl))
  same_lists (x ∷ xs) [] hx hy there back = absurd (there x (inl refl))
  same_lists (x ∷ xs) (y ∷ ys) hx hy there back =
      let first = first_same x y xs ys hx hy there back in
      ap (λ z. z ∷ xs) first ∙ ap (λ zs. y ∷ zs) (same_lists xs ys (rest x xs hx) (rest y ys hy) (later_within x y xs ys first hx there) (later_within y x ys xs (sym first) hy back))
