-- What steps give follows, and each step is one rule.
use Rattle.std.proofs.Common.{◌≡◌, ◌∙◌, ℕ, zero, suc, ◌<◌, ◌≤◌, List, [], ◌∷◌, ◌++◌, Contains, length, get_or, take, inl, inr, refl, ap, subst, arith}
use Rattle.std.proofs.lemmas.List.Elements.{Contains-push_cases}
use Rattle.std.proofs.lemmas.Option.{slice_get-get_or, slice_get_within}
use Rattle.std.proofs.Math.Seq.{take-length, take-suc}
use Rattle.krates_rules.specs.Facts.{Id}
use Rattle.krates_rules.specs.Resolved.{Resolved}
use Rattle.krates_rules.proofs.OnlyOne.{place_in}
use Rattle.krates_units.specs.BuildFacts.{Fact}
use Rattle.krates_units.specs.BuildSetting.{BuildSettingModel}
use Rattle.krates_units.specs.Machines.{MachineModel}
use Rattle.krates_build_tables.specs.TablesOf.{AreTables}
use Rattle.krates_build_tables.specs.declared.tables.Tables.{Tables}
use Rattle.krates_build_facts.specs.FactModels.{FactModel, RuleModel, Lost}
use Rattle.krates_build_facts.specs.Meanings.{AreMeant, Follows, IsRow, Means, by_row}
use Rattle.krates_build_facts.specs.Steps.{AreSteps, MeansRule, StepsAreRules, StepsAreSound, given_in}
use Rattle.krates_build_facts.proofs.FollowingFacts.{each_has_meaning, each_row_is_rule}
use Rattle.krates_build_facts.proofs.RowLists.{Each, first_of, rest_of}

given_first : (t : Tables) (steps : List RuleModel) → AreSteps t steps → (n : ℕ) → n ≤ length steps → (f : FactModel) → Contains (given_in (take n steps)) f → Follows t f
given_first t steps are zero within f m = absurd (omega (arith, m.1))
given_first t steps are (suc n) within f m =
    let here : n < length steps = omega arith in
    let nothing : RuleModel = record { premises = []; fact = Lost 0 0 } in
    let step = get_or steps n nothing in
    let next = are n step (slice_get-get_or steps n nothing here) in
    let more : given_in (take (suc n) steps) ≡ given_in (take n steps) ++ step.fact ∷ [] = ap given_in (take-suc steps n nothing here) ∙ map_more (take n steps) step in
    elim (Contains-push_cases (given_in (take n steps)) step.fact f (rw more at m)) [
      | inl earlier ↦ given_first t steps are n (omega arith) f earlier
      | inr same ↦ subst (Follows t) same (by_row next.row (λ premise p. given_first t steps are n (omega arith) premise (next.premises premise p)))
    ]
  where
    map_more : (xs : List RuleModel) (x : RuleModel) → given_in (xs ++ x ∷ []) ≡ given_in xs ++ x.fact ∷ []
    map_more [] x = refl
    map_more (y ∷ ys) x = ap (λ (zs : List FactModel). y.fact ∷ zs) (map_more ys x)

pub steps_are_sound : StepsAreSound
steps_are_sound t steps are f m = given_first t steps are (length steps) (omega arith) f (rw (← take-length steps) at m)

-- ---- rules

module _ (r : Resolved) (s : BuildSettingModel) (ids : List Id) (ms : List MachineModel) (t : Tables)
    (tables : AreTables r s ids ms t) where
  abbrev HasMeaning : FactModel → Type 0
  HasMeaning n = (f : Fact) × Means r s ids ms t n f

  -- numbers that mean something each mean a list
  meanings : (ns : List FactModel) → Each HasMeaning ns → (fs : List Fact) × AreMeant r s ids ms t ns fs
  meanings [] each = ([], tt)
  meanings (n ∷ ns) each =
      let first = first_of HasMeaning n ns each in
      let more = meanings ns (rest_of HasMeaning n ns each) in
      (first.0 ∷ more.0, (first.1, more.1))

  row_means : (step : RuleModel) → IsRow t step.premises step.fact → Each HasMeaning step.premises → MeansRule r s ids ms t step
  row_means step row each =
      let uses = meanings step.premises each in
      let by = each_row_is_rule r s ids ms t tables step.premises step.fact row uses.0 uses.1 in
      record { premises = uses.0; fact = by.0; uses = uses.1; gives = by.1; by = by.2 }

  step_means : (steps : List RuleModel) → AreSteps t steps → (step : RuleModel) → Contains steps step → MeansRule r s ids ms t step
  step_means steps are step among =
      let place = place_in steps step among in
      let next = are place.0 step place.1 in
      let within : place.0 ≤ length steps = omega (arith, slice_get_within steps place.0 step place.1) in
      row_means step next.row (λ premise p.
      (let is = each_has_meaning r s ids ms t tables premise (given_first t steps are place.0 within premise (next.premises premise p)) in
      (is.0, is.1)))

pub steps_are_rules : StepsAreRules
steps_are_rules r s ids ms t tables steps are step among = step_means r s ids ms t tables steps are step among
