use Rattle.std.proofs.Common.{◌≡◌, ◌<◌, All, List, length, sym, ap, ◌∙◌, subst, arith}
use Rattle.std.proofs.lemmas.List.{length-map}
use Rattle.krates_rules.specs.StepViews.{step_view, steps_view}
use Rattle.krates_selection.proofs.PickedParts.{end_picked, own_picked, part_picked, same_number_tells, used_picked}
use Rattle.krates_selection.proofs.ToldParts.{chosen_low, use_these}
use Rattle.krates_selection.specs.KeptFacts.{explained_steps, kids_of, uses_in}
use Rattle.krates_selection.specs.declared.kept.KeptStep.{KeptStep}
use Rattle.krates_rules.specs.declared.uses.Uses.{Uses}
use Rattle.krates_selection.specs.PartOfSteps.{AreBackward, SameNumber, UseThese}
use Rattle.krates_selection.proofs.kept.Explanation.derivation_of.Goals as goal

pub part_for-requires-clause-backward : goal.part_for-requires-clause-backward
part_for-requires-clause-backward c =
    let same : c.deref.result.now ≡ uses_in c.args.self.now.steps.now = c.deref.ensures.value ∙ c.in_ok-uses.ensures in
    subst AreBackward (sym same) c.requires.explanation.backward

pub picked-requires-clause-within : goal.picked-requires-clause-within
picked-requires-clause-within c =
    let e = c.args.self.now in
    let same : c.deref.result.now ≡ uses_in e.steps.now = c.deref.ensures.value ∙ c.in_ok-uses.ensures in
    let long : length c.deref.result.now ≡ length e.steps.now = ap length same ∙ length-map e.steps.now (λ (x : KeptStep). x.uses) in
    subst (λ m. All (λ n. n < m) c.in_ok-part.part.chosen.items) long (chosen_low SameNumber c.deref.result.now c.in_ok-part.part.uses.items c.in_ok-part.part.chosen.items c.in_ok-part.ensures.part)

pub returns : goal.returns
returns c =
    let e = c.args.self.now in
    let whole = explained_steps e in
    let steps = c.in_ok-steps.steps.items in
    let small = steps_view steps in
    let uses = c.deref.result.now in
    let part = c.in_ok-part.part.uses.items in
    let chosen = c.in_ok-part.part.chosen.items in
    let p = c.in_ok-part.ensures.part in
    let picked = c.in_ok-steps.ensures.picked in
    let same : uses ≡ uses_in e.steps.now = c.deref.ensures.value ∙ c.in_ok-uses.ensures in
    let these : UseThese whole uses = subst (λ (us : List Uses). UseThese whole us) (sym same) (use_these (kids_of e) e.steps.now) in
    record {
      ends = λ x at. end_picked whole small part chosen c.args.number x c.in_ok-part.ensures.last picked at;
      own = λ h. own_picked whole small uses part chosen p picked h;
      used = λ k lt. used_picked whole small part chosen p.long c.in_ok-part.ensures.used picked k (omega (arith, lt, length-map steps step_view));
      accepted = λ r s each. record { some = omega (arith, picked.long, c.in_ok-part.ensures.last.count); each = c.parts_follow.ensures r s whole chosen small (part_picked SameNumber whole small uses part chosen (same_number_tells whole) these p picked) each };
      ids = c.in_ok-steps.ensures.ids;
    }
