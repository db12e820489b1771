-- The first step of each fact, one by one.
use Rattle.std.proofs.Common.{◌≡◌, inl, inr, ℕ, ◌+◌, ◌<◌, List, [], ◌∷◌, ◌++◌, Bool, true, false, not, All, Some, length, replicate, length-append, arith, refl, sym, ap, ◌∙◌, subst}
use Rattle.std.proofs.Math.ListN.{set}
use Rattle.std.proofs.lemmas.Bool.{cases_eq, cases_lt}
use Rattle.std.proofs.lemmas.Option.{slice_get_within, get_or_from_slice_get, same_Some}
use Rattle.std.specs.List.{slice_get}
use Rattle.krates_rules.specs.declared.uses.Uses.{Uses}
use Rattle.krates_selection.specs.PartOfSteps.{HasChosen, IsMarked, IsChoice, IsMade, AreFirst, AreFirstBelow, HasMarked, AreBackward, HaveOwnNumbers, IsChosenFor, SameFact}
use Rattle.krates_selection.specs.declared.part_of_steps.MarkedSteps.{MarkedSteps}
use Rattle.krates_selection.proofs.Marks.{none_marked}
use Rattle.krates_selection.proofs.Places.{end_of, grown, last_of, set_here, set_there}
use Rattle.krates_selection.proofs.NeededParts.{one_place}

pub none_first : (facts : List ℕ) (count : ℕ) → AreFirstBelow facts 0 (replicate count false) []
none_first facts count = record {
  long = refl;
  own = λ j k one other same. absurd cc;
  reached = λ k lt. absurd (omega (arith, lt));
  known = λ f m. absurd (none_marked count f m);
  unknown = λ f k told lt at. omega (arith, lt);
}

chosen_grown : (facts : List ℕ) (marks : List Bool) (b : Bool) (k : ℕ) → HasChosen facts marks k → HasChosen facts (marks ++ b ∷ []) k
chosen_grown facts marks b k h = record { chosen = h.chosen; earlier = h.earlier; marked = grown marks (b ∷ []) h.chosen true h.marked; same = h.same }

has_grown : (facts : List ℕ) (marks : List Bool) (b : Bool) (f : ℕ) → HasMarked facts marks f → HasMarked facts (marks ++ b ∷ []) f
has_grown facts marks b f (k, m, at) = (k, grown marks (b ∷ []) k true m, at)

-- a fact that isn't seen yet wasn't seen before, and isn't the new one
still_unseen : (facts : List ℕ) (n f : ℕ) (seen marks : List Bool) → f < length seen → slice_get facts n ≡ Some f → AreFirstBelow facts n seen marks
    → (g k : ℕ) → slice_get (set seen f true) g ≡ Some false → k < n + 1 → slice_get facts k ≡ Some g → ⊥
still_unseen facts n f seen marks within here h g k told lt at = elim (cases_eq g f) [
  | inl e ↦ (
      let other_way : slice_get (set seen f true) g ≡ Some true = ap (slice_get (set seen f true)) e ∙ set_here seen f true within in
      absurd (cc (told, other_way)))
  | inr other ↦ elim (cases_lt k n) [
    | inl low ↦ h.unknown g k (sym (set_there seen f g true other) ∙ told) low at
    | inr ge ↦ (
        let e : k ≡ n = omega (arith, lt, ge) in
        other (same_Some g f (sym at ∙ ap (slice_get facts) e ∙ here)))
  ]
]

-- the fact of the step was seen before
seen_before : (facts : List ℕ) (n f : ℕ) (seen marks : List Bool) → slice_get facts n ≡ Some f → slice_get seen f ≡ Some true → AreFirstBelow facts n seen marks → AreFirstBelow facts (n + 1) (set seen f true) (marks ++ false ∷ [])
seen_before facts n f seen marks here told h = record {
  long = omega (arith, h.long, length-append marks (false ∷ []));
  own = λ j k one other same. h.own j k (old j one) (old k other) same;
  reached = reached;
  known = λ g m. has_grown facts marks false g (elim (cases_eq g f) [
    | inl e ↦ subst (HasMarked facts marks) (sym e) (h.known f told)
    | inr other ↦ h.known g (sym (set_there seen f g true other) ∙ m)
  ]);
  unknown = still_unseen facts n f seen marks (slice_get_within seen f true told) here h;
}
  where
    old : (k : ℕ) → IsMarked (marks ++ false ∷ []) k → IsMarked marks k
    old k m = elim (last_of marks false k true m) [ inl o ↦ o | inr e ↦ absurd (cc (e.1)) ]

    reached : (k : ℕ) → k < n + 1 → HasChosen facts (marks ++ false ∷ []) k
    reached k lt = chosen_grown facts marks false k (elim (cases_lt k n) [
      | inl low ↦ h.reached k low
      | inr ge ↦ (
          let e : n ≡ k = omega (arith, lt, ge) in
          let w = h.known f told in
          let low : w.0 < n = omega (arith, h.long, slice_get_within marks w.0 true w.1) in
          subst (HasChosen facts marks) e (record { chosen = w.0; earlier = omega (arith, low); marked = w.1; same = w.2 ∙ sym here }))
    ])

-- the fact of the step is seen for the first time
seen_now : (facts : List ℕ) (n f : ℕ) (seen marks : List Bool) → slice_get facts n ≡ Some f → slice_get seen f ≡ Some false → AreFirstBelow facts n seen marks → AreFirstBelow facts (n + 1) (set seen f true) (marks ++ true ∷ [])
seen_now facts n f seen marks here told h = record {
  long = omega (arith, h.long, length-append marks (true ∷ []));
  own = own;
  reached = reached;
  known = seen_of;
  unknown = still_unseen facts n f seen marks (slice_get_within seen f false told) here h;
}
  where
    itself : IsMarked (marks ++ true ∷ []) n
    itself = subst (IsMarked (marks ++ true ∷ [])) h.long (end_of marks true)

    new : (j : ℕ) → IsMarked marks j → SameFact facts j n → ⊥
    new j m same = h.unknown f j told (omega (arith, h.long, slice_get_within marks j true m)) (same ∙ here)

    own : (j k : ℕ) → IsMarked (marks ++ true ∷ []) j → IsMarked (marks ++ true ∷ []) k → SameFact facts j k → j ≡ k
    own j k one other same = elim (last_of marks true j true one) [
      | inl o ↦ elim (last_of marks true k true other) [
        | inl p ↦ h.own j k o p same
        | inr e ↦ absurd (new j o (same ∙ ap (slice_get facts) (e.0 ∙ h.long)))
      ]
      | inr d ↦ elim (last_of marks true k true other) [
        | inl p ↦ absurd (new k p (sym same ∙ ap (slice_get facts) (d.0 ∙ h.long)))
        | inr e ↦ d.0 ∙ sym e.0
      ]
    ]

    reached : (k : ℕ) → k < n + 1 → HasChosen facts (marks ++ true ∷ []) k
    reached k lt = elim (cases_lt k n) [
      | inl low ↦ chosen_grown facts marks true k (h.reached k low)
      | inr ge ↦ (
          let e : n ≡ k = omega (arith, lt, ge) in
          subst (HasChosen facts (marks ++ true ∷ [])) e (record { chosen = n; earlier = omega arith; marked = itself; same = refl }))
    ]

    seen_of : (g : ℕ) → IsMarked (set seen f true) g → HasMarked facts (marks ++ true ∷ []) g
    seen_of g m = elim (cases_eq g f) [
      | inl e ↦ subst (HasMarked facts (marks ++ true ∷ [])) (sym e) (n, itself, here)
      | inr other ↦ has_grown facts marks true g (h.known g (sym (set_there seen f g true other) ∙ m))
    ]

-- one more step
pub first_more : (facts : List ℕ) (n f : ℕ) (b : Bool) (seen marks : List Bool) → slice_get facts n ≡ Some f → slice_get seen f ≡ Some b → AreFirstBelow facts n seen marks → AreFirstBelow facts (n + 1) (set seen f true) (marks ++ not b ∷ [])
first_more facts n f true seen marks here is h = seen_before facts n f seen marks here is h
first_more facts n f false seen marks here is h = seen_now facts n f seen marks here is h

pub first_all : (facts : List ℕ) (n : ℕ) (seen marks : List Bool) → n ≡ length facts → AreFirstBelow facts n seen marks → AreFirst facts marks
first_all facts n seen marks is h = record { long = h.long ∙ is; own = h.own; reached = λ k lt. h.reached k (omega (arith, lt, is)) }

-- ---- the choice

pub first_choice : (c : MarkedSteps) (count : ℕ) → AreBackward c.steps.now → length c.facts.now ≡ length c.steps.now → All (λ f. f < count) c.facts.now → AreFirst c.facts.now c.marks.now → IsChoice c count
first_choice c count back long low first = record {
  facts = long;
  marks = first.long ∙ long;
  low = λ k f at. subst (λ (g : ℕ). g < count) (get_or_from_slice_get c.facts.now k f f at) (low k f (slice_get_within c.facts.now k f at));
  own = first.own;
  reached = λ k x u m at among. (let lt = back k x at u among in (lt, first.reached u (omega (arith, lt, long, slice_get_within c.steps.now k x at))));
}

pub own_numbers : (c : MarkedSteps) (chosen : List ℕ) (part : List Uses) → AreFirst c.facts.now c.marks.now → IsMade c chosen part → HaveOwnNumbers c.facts.now chosen
own_numbers c chosen part first made j k a b one other same =
    let e : a ≡ b = first.own a b (made.marked j a one) (made.marked k b other) same in
    one_place chosen made.is_part.increase j k b (subst (λ (n : ℕ). slice_get chosen j ≡ Some n) e one) other

pub chosen_for : (c : MarkedSteps) (chosen : List ℕ) (part : List Uses) (k : ℕ) → AreFirst c.facts.now c.marks.now → IsMade c chosen part → k < length c.facts.now → IsChosenFor c.facts.now chosen k
chosen_for c chosen part k first made lt =
    let s = first.reached k lt in
    let w = made.each s.chosen s.marked in
    record { now = w.0; stands = record { number = s.chosen; chosen_at = w.1; earlier = s.earlier; same = s.same } }
