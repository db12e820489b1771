-- The chosen steps of a list, one by one.
use Rattle.std.proofs.Common.{◌≡◌, ◌≢◌, inl, inr, ℕ, suc, ◌+◌, ◌<◌, List, [], ◌∷◌, ◌++◌, Option, Some, None, Contains, length, get_or, length-append, arith, refl, sym, ap, ◌∙◌, subst}
use Rattle.std.proofs.Math.ListN.{set}
use Rattle.std.proofs.lemmas.Bool.{cases_lt}
use Rattle.std.proofs.lemmas.Option.{slice_get_within, get_or_from_slice_get, same_Some}
use Rattle.std.specs.List.{AllZip, slice_get}
use Rattle.krates_rules.proofs.Zips.{zip_there}
use Rattle.krates_rules.specs.Uses.{number_in, numbers_used}
use Rattle.krates_rules.specs.declared.uses.Uses.{Uses}
use Rattle.krates_selection.specs.PartOfSteps.{IsMarked, HasChosen, IsChoice, HasNewNumber, IsNumbered, IsPartBelow, IsNewNumber, IsChosenStep, SameFact}
use Rattle.krates_selection.specs.declared.part_of_steps.MarkedSteps.{MarkedSteps}
use Rattle.krates_selection.proofs.Places.{grown, end_of, last_of, set_here, set_there}

-- ---- new numbers

-- a number that is used has a new number
pub new_number_of : (facts : List ℕ) (numbers : List (Option ℕ)) (used : Option ℕ) (number : ℕ) → used ≡ Some number → ((k : ℕ) → Contains (number_in used) k → IsNumbered facts numbers k) → IsNumbered facts numbers number
new_number_of facts numbers used number is h =
    let all = subst (λ (o : Option ℕ). (k : ℕ) → Contains (number_in o) k → IsNumbered facts numbers k) is h in
    all number (0, omega arith, refl)

-- the number that was looked up is the new number
pub looked_up : (facts : List ℕ) (numbers : List (Option ℕ)) (used : Option ℕ) (number : ℕ) → used ≡ Some number → IsNumbered facts numbers number
    → AllZip (HasNewNumber facts numbers) (number_in used) (number_in (get_or numbers (get_or facts number 0) None))
looked_up facts numbers used number is w =
    let here : get_or facts number 0 ≡ w.1.fact = get_or_from_slice_get facts number w.1.fact 0 w.1.fact_at in
    let found : get_or numbers (get_or facts number 0) None ≡ Some w.0 = ap (λ f. get_or numbers f None) here ∙ get_or_from_slice_get numbers w.1.fact (Some w.0) None w.1.at in
    subst (λ (o : Option ℕ). AllZip (HasNewNumber facts numbers) (number_in used) (number_in o)) (sym found)
    (subst (λ (o : Option ℕ). AllZip (HasNewNumber facts numbers) (number_in o) (w.0 ∷ [])) (sym is) (w.1, tt))

-- ---- a choice

-- a step that a chosen step uses has a new number
pub use_numbered : (c : MarkedSteps) (count n : ℕ) (x : Uses) (chosen : List ℕ) (part : List Uses) (numbers : List (Option ℕ)) → IsChoice c count → IsMarked c.marks.now n → slice_get c.steps.now n ≡ Some x
    → IsPartBelow c n chosen part numbers → (used : ℕ) → Contains (numbers_used x) used → IsNumbered c.facts.now numbers used
use_numbered c count n x chosen part numbers choice here at h used among =
    let r = choice.reached n x used here at among in
    let s = r.1 in
    let w = h.placed s.chosen (omega (arith, r.0, s.earlier)) s.marked in
    (w.0, record { fact = w.1.fact; fact_at = sym s.same ∙ w.1.fact_at; at = w.1.at })

stands_grown : (facts chosen : List ℕ) (n before now : ℕ) → IsNewNumber (SameFact facts) chosen before now → IsNewNumber (SameFact facts) (chosen ++ n ∷ []) before now
stands_grown facts chosen n before now s = record { number = s.number; chosen_at = grown chosen (n ∷ []) now s.number s.chosen_at; earlier = s.earlier; same = s.same }

uses_stand : (facts chosen : List ℕ) (n : ℕ) (before now : List ℕ) → AllZip (IsNewNumber (SameFact facts) chosen) before now → AllZip (IsNewNumber (SameFact facts) (chosen ++ n ∷ [])) before now
uses_stand facts chosen n before now z = zip_there (IsNewNumber (SameFact facts) chosen) (IsNewNumber (SameFact facts) (chosen ++ n ∷ [])) before now (λ u m v. stands_grown facts chosen n u v) z

chosen_grown : (facts : List ℕ) (steps : List Uses) (chosen : List ℕ) (n j : ℕ) (x : Uses) → IsChosenStep (SameFact facts) steps chosen j x → IsChosenStep (SameFact facts) steps (chosen ++ n ∷ []) j x
chosen_grown facts steps chosen n j x r = record { before = r.before; chosen_at = grown chosen (n ∷ []) j r.before r.chosen_at; old = r.old; at = r.at; uses = uses_stand facts chosen n (numbers_used r.old) (numbers_used x) r.uses }

behind : (u v : ℕ) (us : List ℕ) → Contains us u → Contains (v ∷ us) u
behind u v us (k, lt, is) = (suc k, omega (arith, lt), is)

-- the new numbers stand for the old ones
numbers_stand : (c : MarkedSteps) (n : ℕ) (chosen : List ℕ) (part : List Uses) (numbers : List (Option ℕ)) → IsPartBelow c n chosen part numbers → (before now : List ℕ)
    → ((u : ℕ) → Contains before u → (u < n) × HasChosen c.facts.now c.marks.now u) → AllZip (HasNewNumber c.facts.now numbers) before now → AllZip (IsNewNumber (SameFact c.facts.now) chosen) before now
numbers_stand c n chosen part numbers h [] [] may z = tt
numbers_stand c n chosen part numbers h [] (v ∷ vs) may z = absurd z
numbers_stand c n chosen part numbers h (u ∷ us) [] may z = absurd z
numbers_stand c n chosen part numbers h (u ∷ us) (v ∷ vs) may z =
    let m = may u (0, omega arith, refl) in
    let s = m.1 in
    let w = h.placed s.chosen (omega (arith, m.0, s.earlier)) s.marked in
    let fact : w.1.fact ≡ z.0.fact = same_Some w.1.fact z.0.fact (sym w.1.fact_at ∙ s.same ∙ z.0.fact_at) in
    let number : Some w.0 ≡ Some v = same_Some (Some w.0) (Some v) (sym w.1.at ∙ ap (λ f. slice_get numbers f) fact ∙ z.0.at) in
    let same : w.0 ≡ v = same_Some w.0 v number in (
      record { number = s.chosen; chosen_at = subst (λ (i : ℕ). slice_get chosen i ≡ Some s.chosen) same w.2; earlier = s.earlier; same = s.same },
      numbers_stand c n chosen part numbers h us vs (λ t a. may t (behind t u us a)) z.1,
    )

-- the next step is marked, and appended to the part
pub step_chosen : (c : MarkedSteps) (n f v : ℕ) (x y : Uses) (chosen : List ℕ) (part : List Uses) (numbers : List (Option ℕ)) → IsChoice c (length numbers) → IsMarked c.marks.now n → slice_get c.steps.now n ≡ Some x → slice_get c.facts.now n ≡ Some f
    → v ≡ length chosen → AllZip (HasNewNumber c.facts.now numbers) (numbers_used x) (numbers_used y) → IsPartBelow c n chosen part numbers → IsPartBelow c (n + 1) (chosen ++ n ∷ []) (part ++ y ∷ []) (set numbers f (Some v))
step_chosen c n f v x y chosen part numbers choice here at fact is uses h = record {
  long = omega (arith, h.long, length-append part (y ∷ []), length-append chosen (n ∷ []));
  low = λ j a there. elim (last_of chosen n j a there) [ inl o ↦ omega (arith, h.low j a o) | inr e ↦ omega (arith, e.1) ];
  increase = increase;
  marked = λ j a there. elim (last_of chosen n j a there) [ inl o ↦ h.marked j a o | inr e ↦ subst (IsMarked c.marks.now) (sym e.1) here ];
  each = each;
  placed = placed;
}
  where
    increase : (j k a b : ℕ) → slice_get (chosen ++ n ∷ []) j ≡ Some a → slice_get (chosen ++ n ∷ []) k ≡ Some b → j < k → a < b
    increase j k a b one other lt = elim (last_of chosen n j a one) [
      | inl o ↦ elim (last_of chosen n k b other) [
        | inl p ↦ h.increase j k a b o p lt
        | inr e ↦ omega (arith, e.1, h.low j a o)
      ]
      | inr e ↦ elim (last_of chosen n k b other) [
        | inl p ↦ absurd (omega (arith, lt, e.0, slice_get_within chosen k b p))
        | inr g ↦ absurd (omega (arith, lt, e.0, g.0))
      ]
    ]

    new : IsChosenStep (SameFact c.facts.now) c.steps.now (chosen ++ n ∷ []) (length part) y
    new = record {
      before = n;
      chosen_at = subst (λ (i : ℕ). slice_get (chosen ++ n ∷ []) i ≡ Some n) (sym h.long) (end_of chosen n);
      old = x;
      at = at;
      uses = uses_stand c.facts.now chosen n (numbers_used x) (numbers_used y) (numbers_stand c n chosen part numbers h (numbers_used x) (numbers_used y) (λ u among. choice.reached n x u here at among) uses);
    }

    each : (j : ℕ) (z : Uses) → slice_get (part ++ y ∷ []) j ≡ Some z → IsChosenStep (SameFact c.facts.now) c.steps.now (chosen ++ n ∷ []) j z
    each j z there = elim (last_of part y j z there) [
      | inl o ↦ chosen_grown c.facts.now c.steps.now chosen n j z (h.each j z o)
      | inr e ↦ subst (λ (i : ℕ). IsChosenStep (SameFact c.facts.now) c.steps.now (chosen ++ n ∷ []) i z) (sym e.0) (subst (λ (w : Uses). IsChosenStep (SameFact c.facts.now) c.steps.now (chosen ++ n ∷ []) (length part) w) (sym e.1) new)
    ]

    other : (k g : ℕ) → k < n → IsMarked c.marks.now k → slice_get c.facts.now k ≡ Some g → g ≢ f
    other k g lt m there e =
        let same : SameFact c.facts.now k n = there ∙ ap (λ i. Some i) e ∙ sym fact in
        absurd (omega (arith, lt, choice.own k n m here same))

    placed : (k : ℕ) → k < n + 1 → IsMarked c.marks.now k → (i : ℕ) × HasNewNumber c.facts.now (set numbers f (Some v)) k i × (slice_get (chosen ++ n ∷ []) i ≡ Some k)
    placed k lt m = elim (cases_lt k n) [
      | inl low ↦ (
          let w = h.placed k low m in
          let kept : slice_get (set numbers f (Some v)) w.1.fact ≡ slice_get numbers w.1.fact = set_there numbers f w.1.fact (Some v) (other k w.1.fact low m w.1.fact_at) in
          (w.0, record { fact = w.1.fact; fact_at = w.1.fact_at; at = kept ∙ w.1.at }, grown chosen (n ∷ []) w.0 k w.2))
      | inr ge ↦ (
          let e : n ≡ k = omega (arith, lt, ge) in
          let within : f < length numbers = choice.low n f fact in
          let put : slice_get (chosen ++ n ∷ []) v ≡ Some n = subst (λ (i : ℕ). slice_get (chosen ++ n ∷ []) i ≡ Some n) (sym is) (end_of chosen n) in
          let number : HasNewNumber c.facts.now (set numbers f (Some v)) n v = record { fact = f; fact_at = fact; at = set_here numbers f (Some v) within } in
          subst (λ (i : ℕ). (j : ℕ) × HasNewNumber c.facts.now (set numbers f (Some v)) i j × (slice_get (chosen ++ n ∷ []) j ≡ Some i)) e (v, number, put))
    ]
