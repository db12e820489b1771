-- Lists in the order of a number that each element has, and parts of them.
use Rattle.std.proofs.Common.{◌≡◌, ℕ, ◌<◌, List, [], ◌∷◌, map, Less, arith, refl, sym, ap, subst, inl, inr}
use Rattle.std.proofs.lemmas.Bool.Decides.{nat_tests}
use Rattle.std.proofs.lemmas.Map.Keys.{sorted_head, sorted_tail}
use Rattle.std.specs.List.{AllByRecursion}
use Rattle.std.specs.List.Sorted.{IsStrictlySortedBy}
use Rattle.std.specs.Ordering.{nat_cmp}
use Rattle.krates_rules.proofs.Members.{Member, mapped_of, member_map}
use Rattle.krates_answers.specs.Those.{AreThose, none, takes, leaves}

less : (n k : ℕ) → nat_cmp n k ≡ Less → n < k
less n k h = grind (arith, nat_tests)

above : (n : ℕ) (ks : List ℕ) (k : ℕ) → AllByRecursion (λ y. nat_cmp n y ≡ Less) ks → Member ks k → n < k
above n [] k h m = absurd m
above n (y ∷ ys) k h (inl e) = less n k (subst (λ z. nat_cmp n z ≡ Less) e h.0)
above n (y ∷ ys) k h (inr m) = above n ys k h.1 m

-- the numbers ascend
abbrev pub Ascend : {A : Type 0} → (A → ℕ) → List A → Type 0
Ascend number xs = IsStrictlySortedBy nat_cmp (map number xs)

rest_ascends : {A : Type 0} (number : A → ℕ) (x : A) (xs : List A) → Ascend number (x ∷ xs) → Ascend number xs
rest_ascends number x xs s = sorted_tail nat_cmp (number x) (map number xs) s

-- what comes after the first has a greater number
later : {A : Type 0} (number : A → ℕ) (x : A) (xs : List A) → Ascend number (x ∷ xs) → (z : A) → Member xs z → number x < number z
later number x xs s z m = above (number x) (map number xs) (number z) (sorted_head nat_cmp (number x) (map number xs) s) (member_map number xs z m)

not_later : {A : Type 0} (number : A → ℕ) (x : A) (xs : List A) → Ascend number (x ∷ xs) → (z : A) → x ≡ z → Member xs z → ⊥
not_later number x xs s z e m = let lt = later number x xs s z m in let same = ap number e in omega (arith, lt, same)

-- the second list has, identified by number, exactly those of the first that have the property
pub record ArePart {A : Type 0} (number : A → ℕ) (P : A → Type 0) (all those : List A) : Type 0 where
  pub all_ascend : Ascend number all
  pub those_ascend : Ascend number those
  pub among : (x : A) → Member those x → Member all x
  pub have : (x : A) → Member those x → P x
  pub none_left : (x : A) → Member all x → P x → Member (map number those) (number x)

-- the first of both taken away
after_both : {A : Type 0} (number : A → ℕ) (P : A → Type 0) (x : A) (xs ys : List A) → ArePart number P (x ∷ xs) (x ∷ ys) → ArePart number P xs ys
after_both number P x xs ys w = record {
  all_ascend = rest_ascends number x xs w.all_ascend;
  those_ascend = rest_ascends number x ys w.those_ascend;
  among = λ z m. elim (w.among z (inr m)) [ inl e ↦ absurd (not_later number x ys w.those_ascend z e m) | inr there ↦ there ];
  have = λ z m. w.have z (inr m);
  none_left = λ z m p.
      elim (w.none_left z (inr m) p) [
        | inl e ↦ (let lt = later number x xs w.all_ascend z m in absurd (omega (arith, lt, e)))
        | inr there ↦ there
      ];
}

-- the first of all taken away, where the others come after it
after_one : {A : Type 0} (number : A → ℕ) (P : A → Type 0) (x : A) (xs ys : List A) → ((z : A) → Member ys z → number x < number z)
    → ArePart number P (x ∷ xs) ys → ArePart number P xs ys
after_one number P x xs ys low w = record {
  all_ascend = rest_ascends number x xs w.all_ascend;
  those_ascend = w.those_ascend;
  among = λ z m.
      elim (w.among z m) [
        | inl e ↦ (let lt = low z m in let same = ap number e in absurd (omega (arith, lt, same)))
        | inr there ↦ there
      ];
  have = w.have;
  none_left = λ z m p. w.none_left z (inr m) p;
}

-- then it hasn't the property
not_first : {A : Type 0} (number : A → ℕ) (P : A → Type 0) (x : A) (xs ys : List A) → ((z : A) → Member ys z → number x < number z)
    → ArePart number P (x ∷ xs) ys → P x → ⊥
not_first number P x xs ys low w p =
    let there = mapped_of number ys (number x) (w.none_left x (inl refl) p) in
    let lt = low there.from there.member in
    omega (arith, lt, there.is)

-- what begins after the first has greater numbers
low_first : {A : Type 0} (number : A → ℕ) (x : A) (xs : List A) (y : A) (ys : List A) → Ascend number (x ∷ xs) → Ascend number (y ∷ ys) → Member xs y
    → (z : A) → Member (y ∷ ys) z → number x < number z
low_first number x xs y ys s t m z (inl e) = let lt = later number x xs s y m in let same = ap number e in omega (arith, lt, same)
low_first number x xs y ys s t m z (inr more) = let lt = later number x xs s y m in let next = later number y ys t z more in omega (arith, lt, next)

-- such a part is those that have the property
pub AreThose-from_part : {A : Type 0} (number : A → ℕ) (P : A → Type 0) (all those : List A) → ArePart number P all those → AreThose P all those
AreThose-from_part number P [] [] w = none
AreThose-from_part number P [] (y ∷ ys) w = absurd (w.among y (inl refl))
AreThose-from_part {A} number P (x ∷ xs) [] w =
    let low : (z : A) → Member [] z → number x < number z = λ z m. absurd m in
    leaves (not_first number P x xs [] low w) (AreThose-from_part number P xs [] (after_one number P x xs [] low w))
AreThose-from_part {A} number P (x ∷ xs) (y ∷ ys) w =
    elim (w.among y (inl refl)) [
      | inl e ↦
          (let same : ArePart number P (x ∷ xs) (x ∷ ys) = subst (λ (z : A). ArePart number P (x ∷ xs) (z ∷ ys)) (sym e) w in
          subst (λ (z : A). AreThose P (x ∷ xs) (z ∷ ys)) e (takes (same.have x (inl refl)) (AreThose-from_part number P xs ys (after_both number P x xs ys same))))
      | inr m ↦
          (let low = low_first number x xs y ys w.all_ascend w.those_ascend m in
          leaves (not_first number P x xs (y ∷ ys) low w) (AreThose-from_part number P xs (y ∷ ys) (after_one number P x xs (y ∷ ys) low w)))
    ]
