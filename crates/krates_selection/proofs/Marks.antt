-- Marks at places of a list.
use Rattle.std.proofs.Common.{◌≡◌, ◌↔◌, ◌⊎◌, inl, inr, ℕ, zero, suc, ◌+◌, ◌<◌, ◌≤◌, List, [], ◌∷◌, Bool, true, false, Option, Some, Contains, length, replicate, arith, refl, sym, ap, ◌∙◌, subst}
use Rattle.std.proofs.Math.ListN.{set}
use Rattle.std.proofs.lemmas.Bool.{cases_lt}
use Rattle.std.proofs.lemmas.List.{length-replicate, length-set}
use Rattle.std.proofs.lemmas.List.Elements.{Contains-append_left, Contains-append_right, Contains-append_cases}
use Rattle.std.proofs.lemmas.Option.{same_Some}
use Rattle.std.specs.List.{slice_get}
use Rattle.krates_rules.specs.Uses.{number_in, numbers_used}
use Rattle.krates_rules.specs.declared.uses.Uses.{Uses}
use Rattle.krates_selection.specs.PartOfSteps.{IsMarked, HasMarkedUser, AreMarkedFrom, AreBackward}

pub marked_set : (xs : List Bool) (i : ℕ) → i < length xs → (k : ℕ) → IsMarked (set xs i true) k ↔ (IsMarked xs k ⊎ (k ≡ i))
marked_set [] i lt k = absurd (omega (arith, lt))
marked_set (x ∷ xs) zero lt zero = (λ h. inr refl, λ h. refl)
marked_set (x ∷ xs) zero lt (suc k) = (λ h. inl h, λ h. elim h [ inl m ↦ m | inr e ↦ absurd (omega (arith, e)) ])
marked_set (x ∷ xs) (suc i) lt zero = (λ h. inl h, λ h. elim h [ inl m ↦ m | inr e ↦ absurd (omega (arith, e)) ])
marked_set (x ∷ xs) (suc i) lt (suc k) =
    let w = marked_set xs i (omega (arith, lt)) k in (
      λ h. elim (w.0 h) [ inl m ↦ inl m | inr e ↦ inr (ap suc e) ],
      λ h. elim h [ inl m ↦ w.1 (inl m) | inr e ↦ w.1 (inr (omega (arith, e))) ],
    )

pub none_marked : (n k : ℕ) → IsMarked (replicate n false) k → ⊥
none_marked zero k m = absurd cc
none_marked (suc n) zero m = absurd cc
none_marked (suc n) (suc k) m = none_marked n k m

-- ---- what a step uses

only_one : (u k : ℕ) → Contains (u ∷ []) k → k ≡ u
only_one u k (zero, lt, is) = sym is
only_one u k (suc j, lt, is) = absurd (omega (arith, lt))

-- the step that is used, if any, is marked
pub one_marked : (old new : List Bool) (used : Option ℕ) (number : ℕ) → used ≡ Some number → number < length old → new ≡ set old number true → (k : ℕ) → IsMarked new k ↔ (IsMarked old k ⊎ Contains (number_in used) k)
one_marked old new used number is lt made k =
    let w = marked_set old number lt k in
    subst (λ (o : Option ℕ). IsMarked new k ↔ (IsMarked old k ⊎ Contains (number_in o) k)) (sym is)
    (subst (λ (xs : List Bool). IsMarked xs k ↔ (IsMarked old k ⊎ Contains (number ∷ []) k)) (sym made) (
      λ m. elim (w.0 m) [ inl h ↦ inl h | inr e ↦ inr (subst (λ j. Contains (number ∷ []) j) (sym e) (0, omega arith, refl)) ],
      λ h. elim h [ inl m ↦ w.1 (inl m) | inr c ↦ w.1 (inr (only_one number k c)) ],
    ))

pub both_marked : (old mid new : List Bool) (uses : Uses) → ((k : ℕ) → IsMarked mid k ↔ (IsMarked old k ⊎ Contains (number_in uses.first) k)) → ((k : ℕ) → IsMarked new k ↔ (IsMarked mid k ⊎ Contains (number_in uses.second) k))
    → (k : ℕ) → IsMarked new k ↔ (IsMarked old k ⊎ Contains (numbers_used uses) k)
both_marked old mid new uses one two k =
    let a = number_in uses.first in
    let b = number_in uses.second in (
      λ m. elim ((two k).0 m) [
        | inl h ↦ elim ((one k).0 h) [ inl g ↦ inl g | inr c ↦ inr (Contains-append_left a b k c) ]
        | inr c ↦ inr (Contains-append_right a b k c)
      ],
      λ h. elim h [
        | inl g ↦ (two k).1 (inl ((one k).1 (inl g)))
        | inr c ↦ elim (Contains-append_cases a b k c) [ inl d ↦ (two k).1 (inl ((one k).1 (inr d))) | inr d ↦ (two k).1 (inr d) ]
      ],
    )

-- ---- going down from the last step

-- the last step alone is marked
pub marked_start : (steps : List Uses) (last : ℕ) (marks : List Bool) → last < length steps → marks ≡ replicate (length steps) false → AreMarkedFrom steps last (last + 1) (set marks last true)
marked_start steps last marks lt none = record {
  long = length-set marks last true ∙ long;
  itself = (told last).1 (inr refl);
  low = λ k m. omega (arith, alone k m);
  closed = λ k x u le m at among. absurd (omega (arith, le, alone k m));
  used = λ k m low. absurd (omega (arith, low, alone k m));
}
  where
    long : length marks ≡ length steps
    long = ap length none ∙ length-replicate (length steps) false

    told : (k : ℕ) → IsMarked (set marks last true) k ↔ (IsMarked marks k ⊎ (k ≡ last))
    told = marked_set marks last (omega (arith, lt, long))

    alone : (k : ℕ) → IsMarked (set marks last true) k → k ≡ last
    alone k m = elim ((told k).0 m) [ inl h ↦ absurd (none_marked (length steps) k (subst (λ (ms : List Bool). IsMarked ms k) none h)) | inr e ↦ e ]

-- the step is marked, and so is now what it uses
pub marked_down : (steps : List Uses) (last n : ℕ) (x : Uses) (old new : List Bool) → AreBackward steps → slice_get steps n ≡ Some x → IsMarked old n → length new ≡ length old
    → ((k : ℕ) → IsMarked new k ↔ (IsMarked old k ⊎ Contains (numbers_used x) k)) → AreMarkedFrom steps last (n + 1) old → AreMarkedFrom steps last n new
marked_down steps last n x old new back at here long told h = record {
  long = long ∙ h.long;
  itself = (told last).1 (inl h.itself);
  low = λ k m. elim ((told k).0 m) [ inl before ↦ h.low k before | inr c ↦ omega (arith, back n x at k c, h.low n here) ];
  closed = closed;
  used = used;
}
  where
    closed : (k : ℕ) (y : Uses) (u : ℕ) → n ≤ k → IsMarked new k → slice_get steps k ≡ Some y → Contains (numbers_used y) u → IsMarked new u
    closed k y u le m there among = elim (cases_lt n k) [
      | inl lt ↦ elim ((told k).0 m) [
        | inl before ↦ (told u).1 (inl (h.closed k y u (omega (arith, lt)) before there among))
        | inr c ↦ absurd (omega (arith, lt, back n x at k c))
      ]
      | inr ge ↦ (
          let e : k ≡ n = omega (arith, le, ge) in
          let same : y ≡ x = same_Some y x (sym there ∙ ap (λ j. slice_get steps j) e ∙ at) in
          (told u).1 (inr (subst (λ (z : Uses). Contains (numbers_used z) u) same among)))
    ]

    used : (k : ℕ) → IsMarked new k → k < last → HasMarkedUser steps new n k
    used k m lt = elim ((told k).0 m) [
      | inl before ↦ (
          let w = h.used k before lt in
          record { user = w.user; behind = omega (arith, w.behind); later = w.later; marked = (told w.user).1 (inl w.marked); step = w.step; at = w.at; among = w.among })
      | inr c ↦ record { user = n; behind = omega arith; later = back n x at k c; marked = (told n).1 (inl here); step = x; at = at; among = c }
    ]

-- the step isn't marked
pub unmarked_down : (steps : List Uses) (last n : ℕ) (marks : List Bool) → (IsMarked marks n → ⊥) → AreMarkedFrom steps last (n + 1) marks → AreMarkedFrom steps last n marks
unmarked_down steps last n marks out h = record {
  long = h.long;
  itself = h.itself;
  low = h.low;
  closed = λ k x u le m at among. elim (cases_lt n k) [
    | inl lt ↦ h.closed k x u (omega (arith, lt)) m at among
    | inr ge ↦ absurd (out (subst (IsMarked marks) (omega (arith, le, ge)) m))
  ];
  used = λ k m lt. (let w = h.used k m lt in record { user = w.user; behind = omega (arith, w.behind); later = w.later; marked = w.marked; step = w.step; at = w.at; among = w.among });
}

-- a number that is used is within the bound
pub within_of : (used : Option ℕ) (number bound : ℕ) → used ≡ Some number → ((k : ℕ) → Contains (number_in used) k → k < bound) → number < bound
within_of used number bound is h =
    let all = subst (λ (o : Option ℕ). (k : ℕ) → Contains (number_in o) k → k < bound) is h in
    all number (0, omega arith, refl)
