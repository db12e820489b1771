-- Steps that are accepted one by one.
use Rattle.std.proofs.Common.{◌≡◌, ◌↔◌, All, Contains, Bool, true, false, IsTrue, ◌⊎◌, ℕ, zero, suc, ◌+◌, ◌<◌, ◌≤◌, List, [], ◌∷◌, ◌++◌, Some, get_or, length, map, option_map, slice_get, take, arith, refl, sym, ap, ◌∙◌, subst, inl, inr}
use Rattle.std.proofs.lemmas.List.{map-append, map_more, take-append-le, take-map, take_all, take_at}
use Rattle.std.proofs.lemmas.Option.{same_Some, slice_get-get_or, slice_get-map, slice_get_within}
use Rattle.krates_build_tables.specs.declared.tables.Tables.{Tables}
use Rattle.std.proofs.lemmas.List.Elements.{All-contains}
use Rattle.std.specs.BTreeSet.{BTreeSet, contains}
use Rattle.krates_build_checkers.specs.GivenFacts.{HasFacts, facts_of_set}
use Rattle.krates_build_facts.specs.FactOrder.{fact_cmp}
use Rattle.krates_build_facts.specs.declared.facts.BuildFact.{BuildFact}
use Rattle.krates_build_facts.specs.FactModels.{RuleModel, fact_view}
use Rattle.krates_build_facts.specs.Meanings.{EachHasMeaning, IsRow}
use Rattle.krates_build_facts.specs.Steps.{AreSteps, MayComeNext, StepsAreRules, StepsAreSound, given_in, step_view}
use Rattle.krates_build_facts.specs.declared.steps.BuildStep.{BuildStep}
use Rattle.krates_build_checkers.proofs.GivenSets.{all_members, given_told}
use Rattle.krates_build_checkers.specs.Acceptance.{AcceptedAreRules, AcceptedFollows, AcceptedIsDerivable, FailsFirst}

-- ---- the steps so far

-- the step at the end, or one before it
end_cases : {A : Type 0} (xs : List A) (x y : A) (k : ℕ) → slice_get (xs ++ x ∷ []) k ≡ Some y → (slice_get xs k ≡ Some y) ⊎ ((k ≡ length xs) × (x ≡ y))
end_cases [] x y zero at = inr (refl, same_Some x y at)
end_cases [] x y (suc k) at = absurd cc
end_cases (z ∷ xs) x y zero at = inl at
end_cases (z ∷ xs) x y (suc k) at = elim (end_cases xs x y k at) [
  | inl before ↦ inl before
  | inr w ↦ inr (ap (λ (n : ℕ). suc n) w.0, w.1)
]

pub no_steps : (t : Tables) → AreSteps t []
no_steps t place step at = absurd cc

pub one_more_step : (t : Tables) (before : List RuleModel) (step : RuleModel) → AreSteps t before → MayComeNext t before step → AreSteps t (before ++ step ∷ [])
one_more_step t before step are next place x at = elim (end_cases before step x place at) [
  | inl earlier ↦ (
      let within : place < length before = slice_get_within before place x earlier in
      subst (λ (xs : List RuleModel). MayComeNext t xs x) (sym (take-append-le place before (step ∷ []) (omega (arith, within)))) (are place x earlier))
  | inr w ↦ (
      let first : take place (before ++ step ∷ []) ≡ before = ap (λ n. take n (before ++ step ∷ [])) w.0 ∙ take_at before (step ∷ []) (length before) refl in
      subst (λ (xs : List RuleModel). MayComeNext t xs x) (sym first) (subst (MayComeNext t before) w.1 next))
]

pub seen_step : (steps : List BuildStep) (i : ℕ) (x : BuildStep) → i < length steps → x ≡ get_or steps i x → map step_view (take (i + 1) steps) ≡ map step_view (take i steps) ++ step_view x ∷ []
seen_step steps i x lt is = map_more step_view steps i x lt ∙ ap (λ (y : BuildStep). map step_view (take i steps) ++ step_view y ∷ []) (sym is)

pub given_more : (steps : List RuleModel) (step : RuleModel) → given_in (steps ++ step ∷ []) ≡ given_in steps ++ step.fact ∷ []
given_more steps step = map-append (λ (s : RuleModel). s.fact) steps (step ∷ [])

pub first_fails : (t : Tables) (steps : List BuildStep) (i : ℕ) (x : BuildStep) → i < length steps → x ≡ get_or steps i x → AreSteps t (map step_view (take i steps))
    → (MayComeNext t (map step_view (take i steps)) (step_view x) → ⊥) → FailsFirst t (map step_view steps) i
first_fails t steps i x lt is before fails =
    let first : map step_view (take i steps) ≡ take i (map step_view steps) = sym (take-map step_view i steps) in
    record {
      before = subst (AreSteps t) first before;
      step = step_view x;
      at = slice_get-map step_view steps i ∙ ap (option_map step_view) (slice_get-get_or steps i x lt ∙ ap (λ y. Some y) (sym is));
      fails = subst (λ (xs : List RuleModel). MayComeNext t xs (step_view x) → ⊥) first fails;
    }

pub all_steps : (t : Tables) (steps : List BuildStep) (i : ℕ) → length steps ≤ i → AreSteps t (map step_view (take i steps)) → AreSteps t (map step_view steps)
all_steps t steps i le h = subst (λ (xs : List BuildStep). AreSteps t (map step_view xs)) (take_all i steps le) h

-- ---- whether a step may come next

pub given_before : (t : Tables) (step : BuildStep) (set : BTreeSet BuildFact) (b : Bool) → b ≡ contains fact_cmp set step.fact → b ≡ true → (before : List RuleModel) → HasFacts set (given_in before)
    → IsTrue false ↔ MayComeNext t before (step_view step)
given_before t step set b e there before h = (λ x. absurd cc, λ next. absurd (next.fresh ((h (fact_view step.fact)).0 ((given_told set step.fact b e).0 there))))

pub told_next : (t : Tables) (step : BuildStep) (set : BTreeSet BuildFact) (b g r : Bool) → b ≡ contains fact_cmp set step.fact → b ≡ false → (IsTrue g ↔ All (Contains (facts_of_set set)) (map fact_view step.premises.items)) → g ≡ true
    → (IsTrue r ↔ IsRow t (step_view step).premises (step_view step).fact) → (before : List RuleModel) → HasFacts set (given_in before) → IsTrue r ↔ MayComeNext t before (step_view step)
told_next t step set b g r e lacks premises all row before h = (
  λ x. record {
    row = row.0 x;
    premises = λ f among. (h f).0 (All-contains (Contains (facts_of_set set)) (map fact_view step.premises.items) f (premises.0 all) among);
    fresh = λ there. (let wrong : false ≡ true = sym lacks ∙ (given_told set step.fact b e).1 ((h (fact_view step.fact)).1 there) in cc);
  },
  λ next. row.1 next.row,
)

pub lacks_premise : (t : Tables) (step : BuildStep) (set : BTreeSet BuildFact) (g : Bool) → (IsTrue g ↔ All (Contains (facts_of_set set)) (map fact_view step.premises.items)) → g ≡ false
    → (before : List RuleModel) → HasFacts set (given_in before) → IsTrue g ↔ MayComeNext t before (step_view step)
lacks_premise t step set g premises lacks before h = (
  λ x. absurd (let wrong : false ≡ true = sym lacks ∙ x in cc),
  λ next. premises.1 (all_members (Contains (facts_of_set set)) (map fact_view step.premises.items) (λ f among. (h f).1 (next.premises f among))),
)

-- ---- laws

pub accepted_follows : StepsAreSound → AcceptedFollows
accepted_follows sound t steps accepted f given = sound t steps accepted.each f given

pub accepted_is_derivable : StepsAreSound → EachHasMeaning → AcceptedIsDerivable
accepted_is_derivable sound meaning r s ids ms t tables steps accepted number given =
    meaning r s ids ms t tables number (sound t steps accepted.each number given)

pub accepted_are_rules : StepsAreRules → AcceptedAreRules
accepted_are_rules rules r s ids ms t tables steps accepted step among = rules r s ids ms t tables steps accepted.each step among
