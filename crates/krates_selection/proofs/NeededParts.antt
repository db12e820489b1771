-- The part of a list on which one step depends.
use Rattle.std.proofs.Common.{◌≡◌, inl, inr, ℕ, ◌+◌, ◌<◌, ◌≤◌, List, [], ◌∷◌, ◌++◌, Some, Contains, length, get_or, length-append, arith, refl, sym, ap, ◌∙◌, subst}
use Rattle.std.proofs.lemmas.Bool.{cases_lt, cases_order}
use Rattle.std.proofs.lemmas.Option.{slice_get_within, slice_get-get_or, same_Some}
use Rattle.std.specs.List.{AllZip, slice_get}
use Rattle.krates_rules.proofs.Members.{contains_of}
use Rattle.krates_rules.proofs.OnlyOne.{place_in}
use Rattle.krates_rules.proofs.Readings.{right_of}
use Rattle.krates_rules.proofs.Standings.{contains_at}
use Rattle.krates_rules.proofs.Zips.{zip_there}
use Rattle.krates_rules.specs.StepParts.{Increase}
use Rattle.krates_rules.specs.Uses.{numbers_used}
use Rattle.krates_rules.specs.declared.uses.Uses.{Uses}
use Rattle.krates_selection.specs.PartOfSteps.{IsMarked, IsChoice, IsMade, AreNeeded, AreOwnNumbers, AreBackward, AreUsedBehind, EndsAt, IsChosenStep, IsNewNumber, IsPartBy, IsUsedBehind, SameFact, SameNumber}
use Rattle.krates_selection.specs.declared.part_of_steps.MarkedSteps.{MarkedSteps}
use Rattle.krates_selection.proofs.Places.{end_of, grown}

-- ---- own numbers

pub none_numbered : AreOwnNumbers 0 []
none_numbered = record { long = refl; each = λ k lt. absurd (omega (arith, lt)) }

pub own_number : (numbers : List ℕ) (k : ℕ) → AreOwnNumbers k numbers → AreOwnNumbers (k + 1) (numbers ++ k ∷ [])
own_number numbers k h = record {
  long = long numbers k h.long;
  each = λ j lt. elim (cases_lt j k) [
    | inl low ↦ grown numbers (k ∷ []) j j (h.each j low)
    | inr ge ↦ (
        let e : k ≡ j = omega (arith, lt, ge) in
        subst (λ i. slice_get (numbers ++ k ∷ []) i ≡ Some i) e (subst (λ i. slice_get (numbers ++ k ∷ []) i ≡ Some k) h.long (end_of numbers k)))
  ];
}
  where
    long : (xs : List ℕ) (n : ℕ) → length xs ≡ n → length (xs ++ n ∷ []) ≡ n + 1
    long xs n e = omega (arith, e, length-append xs (n ∷ []))

pub own_numbers : (k count : ℕ) (numbers seen : List ℕ) → k ≡ count → seen ≡ numbers → AreOwnNumbers k numbers → AreOwnNumbers count seen
own_numbers k count numbers seen is same own = rw (sym is, same) own

same_number : (count : ℕ) (facts : List ℕ) (j k : ℕ) → AreOwnNumbers count facts → j < count → k < count → SameFact facts j k → j ≡ k
same_number count facts j k own one other same = same_Some j k (sym (own.each j one) ∙ same ∙ own.each k other)

-- ---- the choice

marked_within : (c : MarkedSteps) (last k : ℕ) → AreNeeded c.steps.now last c.marks.now → IsMarked c.marks.now k → k < length c.steps.now
marked_within c last k needed m = omega (arith, needed.long, slice_get_within c.marks.now k _ m)

pub needed_choice : (c : MarkedSteps) (last : ℕ) → AreBackward c.steps.now → AreOwnNumbers (length c.steps.now) c.facts.now → AreNeeded c.steps.now last c.marks.now → IsChoice c (length c.steps.now)
needed_choice c last back own needed = record {
  facts = own.long;
  marks = needed.long;
  low = low;
  own = λ j k one other same. same_number (length c.steps.now) c.facts.now j k own (marked_within c last j needed one) (marked_within c last k needed other) same;
  reached = λ k x u m at among. (back k x at u among, record { chosen = u; earlier = omega arith; marked = needed.closed k x u (omega arith) m at among; same = refl });
}
  where
    low : (k f : ℕ) → slice_get c.facts.now k ≡ Some f → f < length c.steps.now
    low k f at =
        let within : k < length c.steps.now = omega (arith, own.long, slice_get_within c.facts.now k f at) in
        omega (arith, within, same_Some k f (sym (own.each k within) ∙ at))

-- ---- the part

-- where each step has a fact of its own, a number stands for exactly that step
pub own_part : (c : MarkedSteps) (chosen : List ℕ) (part : List Uses) → AreBackward c.steps.now → AreOwnNumbers (length c.steps.now) c.facts.now → IsPartBy (SameFact c.facts.now) c.steps.now chosen part → IsPartBy SameNumber c.steps.now chosen part
own_part c chosen part back own p = record { increase = p.increase; long = p.long; each = each }
  where
    each : (k : ℕ) (x : Uses) → slice_get part k ≡ Some x → IsChosenStep SameNumber c.steps.now chosen k x
    each k x at =
        let r = p.each k x at in
        let very : (a b : ℕ) → Contains (numbers_used r.old) a → IsNewNumber (SameFact c.facts.now) chosen a b → IsNewNumber SameNumber chosen a b = λ a b among s.
        (let high : a < length c.steps.now = omega (arith, back r.before r.old r.at a among, slice_get_within c.steps.now r.before r.old r.at) in
        record { number = s.number; chosen_at = s.chosen_at; earlier = s.earlier; same = same_number (length c.steps.now) c.facts.now s.number a own (omega (arith, high, s.earlier)) high s.same }) in
        record {
          before = r.before;
          chosen_at = r.chosen_at;
          old = r.old;
          at = r.at;
          uses = zip_there (IsNewNumber (SameFact c.facts.now) chosen) (IsNewNumber SameNumber chosen) (numbers_used r.old) (numbers_used x) (λ a m b. very a b (contains_of (numbers_used r.old) a m)) r.uses;
        }

-- the last step is chosen last
last_place : (chosen : List ℕ) (last v : ℕ) → Increase chosen → ((j a : ℕ) → slice_get chosen j ≡ Some a → a ≤ last) → slice_get chosen v ≡ Some last → length chosen ≡ v + 1
last_place chosen last v up low at = elim (cases_lt (v + 1) (length chosen)) [
  | inl lt ↦ (
      let a = get_or chosen (v + 1) last in
      let there : slice_get chosen (v + 1) ≡ Some a = slice_get-get_or chosen (v + 1) last lt in
      absurd (omega (arith, low (v + 1) a there, up v (v + 1) last a at there (omega arith))))
  | inr ge ↦ omega (arith, ge, slice_get_within chosen v last at)
]

pub ends_at : (c : MarkedSteps) (last : ℕ) (chosen : List ℕ) (part : List Uses) → AreNeeded c.steps.now last c.marks.now → IsMade c chosen part → EndsAt chosen last
ends_at c last chosen part needed made =
    let w = made.each last needed.itself in
    record { number = w.0; count = last_place chosen last w.0 made.is_part.increase (λ j a at. needed.low a (made.marked j a at)) w.1; at = w.1 }

-- a step is chosen only once
pub one_place : (chosen : List ℕ) → Increase chosen → (j k a : ℕ) → slice_get chosen j ≡ Some a → slice_get chosen k ≡ Some a → j ≡ k
one_place chosen up j k a one other = elim (cases_order j k) [
  | inl e ↦ e
  | inr r ↦ elim r [ inl low ↦ absurd (omega (arith, up j k a a one other low)) | inr high ↦ absurd (omega (arith, up k j a a other one high)) ]
]

-- of two chosen steps the earlier one comes first
before_by : (chosen : List ℕ) → Increase chosen → (j k a b : ℕ) → slice_get chosen j ≡ Some a → slice_get chosen k ≡ Some b → a < b → j < k
before_by chosen up j k a b one other lt = elim (cases_order j k) [
  | inl e ↦ absurd (omega (arith, lt, same_Some a b (sym one ∙ ap (λ i. slice_get chosen i) e ∙ other)))
  | inr r ↦ elim r [ inl low ↦ low | inr high ↦ absurd (omega (arith, lt, up k j b a other one high)) ]
]

among_zip : {A B : Type 0} (R : A → B → Type 0) (xs : List A) (ys : List B) (a : A) → AllZip R xs ys → Contains xs a → (b : B) × Contains ys b × R a b
among_zip R xs ys a z c =
    let at = place_in xs a c in
    let b = right_of R xs ys at.0 a z at.1 in
    (b.0, contains_at ys at.0 b.0 b.1, b.2)

-- the new number of a chosen step is its place
very_place : (chosen : List ℕ) → Increase chosen → (a now k : ℕ) → IsNewNumber SameNumber chosen a now → slice_get chosen k ≡ Some a → now ≡ k
very_place chosen up a now k s here = one_place chosen up now k a (s.chosen_at ∙ ap (λ n. Some n) s.same) here

-- the steps at one place use the same
same_uses : (steps : List Uses) (n m : ℕ) (x y : Uses) (u : ℕ) → n ≡ m → slice_get steps n ≡ Some x → slice_get steps m ≡ Some y → Contains (numbers_used x) u → Contains (numbers_used y) u
same_uses steps n m x y u e one other among = subst (λ (z : Uses). Contains (numbers_used z) u) (same_Some x y (sym one ∙ ap (slice_get steps) e ∙ other)) among

behind_by : (part : List Uses) (k j now : ℕ) (y : Uses) → k < j → slice_get part j ≡ Some y → now ≡ k → Contains (numbers_used y) now → IsUsedBehind part k
behind_by part k j now y later at is among = record { user = j; later = later; step = y; at = at; among = subst (λ (n : ℕ). Contains (numbers_used y) n) is among }

-- a step chosen before the last is used by one chosen later
pub used_behind : (c : MarkedSteps) (last : ℕ) (chosen : List ℕ) (part : List Uses) → AreNeeded c.steps.now last c.marks.now → IsMade c chosen part → IsPartBy SameNumber c.steps.now chosen part → AreUsedBehind part
used_behind c last chosen part needed made p k lt =
    let e = ends_at c last chosen part needed made in
    let within : k < length chosen = omega (arith, lt, p.long) in
    let a = get_or chosen k last in
    let here : slice_get chosen k ≡ Some a = slice_get-get_or chosen k last within in
    let low = p.increase k e.number a last here e.at (omega (arith, lt, p.long, e.count)) in
    let u = needed.used a (made.marked k a here) low in
    let m = made.each u.user u.marked in
    let j = m.0 in
    let there : j < length part = omega (arith, p.long, slice_get_within chosen j u.user m.1) in
    let y = get_or part j u.step in
    let put : slice_get part j ≡ Some y = slice_get-get_or part j u.step there in
    let r = p.each j y put in
    let number : u.user ≡ r.before = same_Some u.user r.before (sym m.1 ∙ r.chosen_at) in
    let among = same_uses c.steps.now u.user r.before u.step r.old a number u.at r.at u.among in
    let w = among_zip (IsNewNumber SameNumber chosen) (numbers_used r.old) (numbers_used y) a r.uses among in
    let is : w.0 ≡ k = very_place chosen p.increase a w.0 k w.2 here in
    behind_by part k j w.0 y (before_by chosen p.increase k j a u.user here m.1 u.later) put is w.1
