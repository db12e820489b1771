-- The first steps of a trace, by the numbers of the kept crates.
use Rattle.std.proofs.Common.{◌≡◌, ℕ, ◌<◌, List, [], ◌∷◌, All, Some, Contains, length, get_or, map, option_map, refl, sym, ap, ◌∙◌, subst, arith}
use Rattle.std.proofs.lemmas.List.{length-map}
use Rattle.std.proofs.lemmas.Option.{get_or_from_slice_get, slice_get-map, slice_get-get_or, slice_get_within, same_Some}
use Rattle.std.specs.List.{AllZip, slice_get}
use Rattle.std.specs.List.Sorted.{IsStrictlySortedBy}
use Rattle.krates_rules.proofs.DistinctIds.{OrderTellsSame}
use Rattle.krates_selection.specs.KeptFacts.{AreChosen, IsChosenIn, AreBelow, uses_in, Enables, IsBelow, KeepsCrate, KeepsEdge, KeptModel, Toggles, fact_in, facts_in, step_in, steps_in, AreFactNumbers, home, key_view}
use Rattle.krates_selection.specs.KeptTables.{AreKeptFacts, AreStepsOf, IsKeptIn, IsKeyOf, document_in, kids_in, numbered_facts}
use Rattle.krates_selection.specs.declared.kept.KeptStep.{KeptStep}
use Rattle.krates_selection.specs.declared.key.KeptFactKey.{KeptFactKey}
use Rattle.krates_selection.specs.declared.kept_tables.KeptTables.{KeptTables}
use Rattle.krates_selection.proofs.KeptFactLemmas.{kept_crates, same_in}
use Rattle.krates_selection.proofs.PickedParts.{own_firsts, part_picked, same_fact_tells}
use Rattle.krates_selection.proofs.PickedSteps.{seen_back}
use Rattle.krates_selection.proofs.Places.{there_is}
use Rattle.krates_selection.proofs.ToldParts.{use_these}
use Rattle.krates_ids.specs.Identity.{id_cmp}
use Rattle.krates_selection.proofs.Steps.{names_once}
use Rattle.krates_selection.specs.Trace.{HasSomeStep, IsShown, IsTrace}
use Rattle.krates_selection.specs.declared.trace.NumberedFact.{NumberedFact}
use Rattle.krates_selection.specs.declared.trace.NumberedStep.{NumberedStep}
use Rattle.krates_rules.proofs.ListsOfSteps.{contained_derived}
use Rattle.krates_rules.proofs.OnlyOne.{place_in}
use Rattle.krates_rules.proofs.Readings.{ReadsOnce, left_of, right_of}
use Rattle.krates_rules.proofs.Standings.{contains_at}
use Rattle.krates_rules.specs.Checks.{PartsFollow}
use Rattle.krates_rules.specs.Derivation.{Derivable}
use Rattle.krates_rules.specs.Facts.{Id, Fact, Crate}
use Rattle.krates_rules.specs.Questions.{questions}
use Rattle.krates_rules.specs.Resolved.{Resolved}
use Rattle.krates_rules.specs.Rules.{Questions}
use Rattle.krates_rules.specs.Setting.{SettingModel}
use Rattle.krates_rules.specs.Steps.{EachFollows, IsEarlier, StepModel}
use Rattle.krates_rules.specs.Uses.{numbers_used}
use Rattle.krates_rules.specs.declared.uses.Uses.{Uses}
use Rattle.krates_selection.specs.PartOfSteps.{AreBackward, HaveOwnNumbers, IsChosenFor, IsPartBy, SameFact, ArePicked, HaveTheseFacts, IsPicked, UseThese}

abbrev pub uses_of : List NumberedStep → List Uses
uses_of steps = map (λ (x : NumberedStep). x.reason.uses) steps

-- the steps use what their numbers stand for
pub shown_uses : (r : Resolved) (steps : List NumberedStep) (whole : List StepModel) → AllZip (IsShown r) steps whole → UseThese whole (uses_of steps)
shown_uses r [] [] z = refl
shown_uses r [] (y ∷ ys) z = absurd z
shown_uses r (x ∷ xs) [] z = absurd z
shown_uses r (x ∷ xs) (y ∷ ys) z = ap (λ us. us ∷ map (λ (s : StepModel). s.uses) ys) z.0.uses ∙ ap (λ us. numbers_used x.reason.uses ∷ us) (shown_uses r xs ys z.1)

-- steps that follow use earlier ones
pub follow_backward : (q : Questions) (whole : List StepModel) (uses : List Uses) → UseThese whole uses → EachFollows q whole → AreBackward uses
follow_backward q whole uses these each k x at u among =
    let there : slice_get (map numbers_used uses) k ≡ Some (numbers_used x) = slice_get-map numbers_used uses k ∙ ap (option_map numbers_used) at in
    let y = seen_back (λ (s : StepModel). s.uses) whole k (numbers_used x) (ap (λ us. slice_get us k) these ∙ there) in
    let f = each k y.0 y.1 in
    let j = place_in (numbers_used x) u among in
    let e = right_of (IsEarlier whole k) y.0.uses f.premises j.0 u f.uses (ap (λ us. slice_get us j.0) y.2 ∙ j.1) in
    e.2.before

-- each fact of a trace is about kept crates
pub kept_facts : (t : KeptTables) (s : SettingModel) (steps : List NumberedStep) → (tr : IsTrace (document_in t) s steps) → ((i : Id) → Derivable (questions (document_in t) s) (Crate i) → IsKeptIn (kids_in t) i) → AreKeptFacts t steps
unfolding questions
kept_facts t s steps tr crates k d lt =
    let r = document_in t in
    let x = get_or steps k d in
    let w = right_of (IsShown r) steps tr.steps k x tr.shown (slice_get-get_or steps k d lt) in
    let derived = contained_derived (questions r s) tr.steps tr.follows w.0 (contains_at tr.steps k w.0 w.1) in
    record { fact = w.0.fact; names = w.2.fact; kept = kept_crates (questions r s) r (kids_in t) crates (λ i h. (h.node, h.has_node)) x.fact w.0.fact w.2.fact derived }

home_low : (n : ℕ) (f : KeptModel) → IsBelow n f → home f < n
home_low n (KeepsCrate krate) low = low
home_low n (Enables krate name) low = low
home_low n (KeepsEdge parent child kind cfg) low = low.0
home_low n (Toggles by krate name) low = low.0

-- the crate of each key has a number
pub homes_low : (t : KeptTables) (facts : List NumberedFact) (keys : List KeptFactKey) → AllZip (IsKeyOf t) facts keys → All (λ f. home f < length (kids_in t)) (map key_view keys)
homes_low t facts keys z k d lt =
    let y = there_is keys k (omega (arith, lt, length-map keys key_view)) in
    let x = left_of (IsKeyOf t) facts keys k y.0 z y.1 in
    let there = get_or_from_slice_get (map key_view keys) k (key_view y.0) d (slice_get-map key_view keys k ∙ ap (option_map key_view) y.1) in
    subst (λ f. home f < length (kids_in t)) (sym there) (home_low (length (kids_in t)) (key_view y.0) x.2.below)

module _ (tells : OrderTellsSame) (t : KeptTables) (s : SettingModel) (steps : List NumberedStep) (keys : List KeptFactKey) (sorted : IsStrictlySortedBy id_cmp (kids_in t)) (tr : IsTrace (document_in t) s steps) (keyed : AllZip (IsKeyOf t) (numbered_facts steps) keys) where
  -- each step of the derivation has a key, which says its fact
  key_of : (k : ℕ) (x : StepModel) → slice_get tr.steps k ≡ Some x → (key : KeptFactKey) × (slice_get keys k ≡ Some key) × (fact_in (kids_in t) (key_view key) ≡ x.fact) × IsBelow (length (kids_in t)) (key_view key)
  key_of k x at =
      let fact : NumberedStep → NumberedFact = λ y. y.fact in
      let y = left_of (IsShown (document_in t)) steps tr.steps k x tr.shown at in
      let w = right_of (IsKeyOf t) (numbered_facts steps) keys k y.0.fact keyed (slice_get-map fact steps k ∙ ap (option_map fact) y.1) in
      (w.0, w.1, w.2.is x.fact y.2.fact, w.2.below)

  key_is : (k : ℕ) (x : StepModel) (key : KeptFactKey) → slice_get tr.steps k ≡ Some x → slice_get keys k ≡ Some key → (fact_in (kids_in t) (key_view key) ≡ x.fact) × IsBelow (length (kids_in t)) (key_view key)
  key_is k x key at there =
      let w = key_of k x at in
      let same : w.0 ≡ key = same_Some w.0 key (sym w.1 ∙ there) in
      (ap (λ (z : KeptFactKey). fact_in (kids_in t) (key_view z)) (sym same) ∙ w.2, subst (λ (z : KeptFactKey). IsBelow (length (kids_in t)) (key_view z)) same w.3)

  -- two steps have the same number exactly where they have the same fact
  pub have_facts : (numbers : List ℕ) → AreFactNumbers (map key_view keys) numbers → HaveTheseFacts tr.steps numbers
  have_facts numbers n j k x y at there =
      let a = key_of j x at in
      let b = key_of k y there in
      let same = n.same j k (key_view a.0) (key_view b.0) (slice_get-map key_view keys j ∙ ap (option_map key_view) a.1) (slice_get-map key_view keys k ∙ ap (option_map key_view) b.1) in (
        λ e. sym a.2 ∙ ap (fact_in (kids_in t)) (same.0 e) ∙ b.2,
        λ e. same.1 (same_in tells (kids_in t) sorted (key_view a.0) (key_view b.0) a.3 b.3 (a.2 ∙ e ∙ sym b.2)),
      )

  -- the step that a chosen step stands for
  picked_at : (part : List Uses) (chosen : List ℕ) (number : ℕ) (z : KeptStep) → IsChosenIn keys steps chosen part number z → IsPicked tr.steps chosen part number (step_in (kids_in t) z)
  picked_at part chosen number z c =
      let old = right_of (IsShown (document_in t)) steps tr.steps c.number c.is.step tr.shown c.is.step_at in
      record {
        before = c.number;
        chosen_at = c.chosen_at;
        old = old.0;
        at = old.1;
        rule = c.is.rule ∙ sym old.2.rule;
        fact = ap (fact_in (kids_in t)) c.is.fact ∙ (key_is c.number old.0 c.is.key old.1 c.is.key_at).0;
        uses = c.uses;
        here = c.uses_at;
        used = ap numbers_used c.is.uses_is;
      }

  pub are_picked : (part : List Uses) (chosen : List ℕ) (kept : List KeptStep) → AreChosen keys steps chosen part kept → ArePicked tr.steps chosen part (steps_in (kids_in t) kept)
  are_picked part chosen kept c = record {
    long = length-map kept (step_in (kids_in t)) ∙ c.long;
    each = λ number x at. (
        let z = seen_back (step_in (kids_in t)) kept number x at in
        subst (IsPicked tr.steps chosen part number) z.2 (picked_at part chosen number z.0 (c.each number z.0 z.1)));
  }

  are_below : (part : List Uses) (chosen : List ℕ) (kept : List KeptStep) → AreChosen keys steps chosen part kept → AreBelow (length (kids_in t)) kept
  are_below part chosen kept c k d lt =
      let z = get_or kept k d in
      let w = c.each k z (slice_get-get_or kept k d lt) in
      let old = right_of (IsShown (document_in t)) steps tr.steps w.number w.is.step tr.shown w.is.step_at in
      subst (IsBelow (length (kids_in t))) (sym w.is.fact) (key_is w.number old.0 w.is.key old.1 w.is.key_at).1

  -- each fact that has a step has a chosen one
  facts_there : ReadsOnce → (numbers : List ℕ) (part : List Uses) (chosen : List ℕ) (kept : List KeptStep) → AreFactNumbers (map key_view keys) numbers → ((k : ℕ) → k < length (uses_of steps) → IsChosenFor numbers chosen k)
      → AreChosen keys steps chosen part kept → (f : Fact) → HasSomeStep (document_in t) steps f → Contains (facts_in (steps_in (kids_in t) kept)) f
  facts_there once numbers part chosen kept n each c f (k, has) =
      let r = document_in t in
      let x = right_of (IsShown r) steps tr.steps k has.step tr.shown has.at in
      let is : x.0.fact ≡ f = names_once once r has.step.fact x.0.fact f x.2.fact has.names in
      let lt : k < length (uses_of steps) = omega (arith, length-map steps (λ (y : NumberedStep). y.reason.uses), slice_get_within steps k has.step has.at) in
      let w = each k lt in
      let now = w.now in
      let within : now < length kept = omega (arith, c.long, slice_get_within chosen now w.stands.number w.stands.chosen_at) in
      let z = there_is kept now within in
      let p = picked_at part chosen now z.0 (c.each now z.0 z.1) in
      let number : p.before ≡ w.stands.number = same_Some p.before w.stands.number (sym p.chosen_at ∙ w.stands.chosen_at) in
      let old = ap (slice_get tr.steps) (sym number) ∙ p.at in
      let same : p.old.fact ≡ x.0.fact = (have_facts numbers n w.stands.number k p.old x.0 old x.1).0 w.stands.same in
      let step : StepModel → Fact = λ y. y.fact in
      contains_at (facts_in (steps_in (kids_in t) kept)) now f
      (slice_get-map step (steps_in (kids_in t) kept) now ∙ ap (option_map step) (slice_get-map (step_in (kids_in t)) kept now ∙ ap (option_map (step_in (kids_in t))) z.1) ∙ ap (λ (g : Fact). Some g) (p.fact ∙ same ∙ is))

  -- the first steps explain all that the trace does
  pub steps_are : ReadsOnce → PartsFollow → (numbers : List ℕ) (uses part : List Uses) (chosen : List ℕ) (kept : List KeptStep) → AreFactNumbers (map key_view keys) numbers → uses ≡ uses_of steps
      → IsPartBy (SameFact numbers) uses chosen part → HaveOwnNumbers numbers chosen → ((k : ℕ) → k < length uses → IsChosenFor numbers chosen k) → AreChosen keys steps chosen part kept
      → AreStepsOf (document_in t) s (kids_in t) steps kept
  steps_are once follow numbers uses part chosen kept n same p own each c =
      let r = document_in t in
      let kids = kids_in t in
      let whole = tr.steps in
      let small = steps_in kids kept in
      let these : UseThese whole uses = subst (UseThese whole) (sym same) (shown_uses r steps whole tr.shown) in
      let have = have_facts numbers n in
      let picked = are_picked part chosen kept c in
      let follows = follow r s whole chosen small (part_picked (SameFact numbers) whole small uses part chosen (same_fact_tells whole numbers have) these p picked) tr.follows in
      record {
        below = are_below part chosen kept c;
        backward = follow_backward (questions r s) small (uses_in kept) (use_these kids kept) follows;
        own = own_firsts whole small part numbers chosen have own picked;
        follows = follows;
        facts = facts_there once numbers part chosen kept n (λ k lt. each k (subst (λ (us : List Uses). k < length us) (sym same) lt)) c;
      }
