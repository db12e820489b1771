use Rattle.std.proofs.Common.{◌≡◌, ◌++◌, [], ◌∷◌, All, ap, get_or, sym, subst, rules}
use Rattle.std.proofs.lemmas.List.Elements.{All-push}
use Rattle.krates_rules.specs.declared.derivation.Step.{Step}
use Rattle.krates_selection.specs.declared.kept.KeptStep.{KeptStep}
use Rattle.krates_selection.specs.KeptFacts.{HasTheseIds, kids_of}
use Rattle.krates_selection.proofs.PickedSteps.{EachSoFar, IsPickedStep, all_picked, none_yet, one_more, picked_here}
use Rattle.krates_selection.proofs.kept.Explanation.picked.Goals as goal

pub loop-place-init : goal.loop-place-init
loop-place-init c = (
  none_yet (IsPickedStep c.args.self.now c.args.part.now.chosen.items c.args.part.now.uses.items) c.new-steps.result.items c.new-steps.ensures.items,
  search rules,
)

pub loop-place-preserved : goal.loop-place-preserved
loop-place-preserved c =
    let e = c.args.self.now in
    let part = c.args.part.now in
    let place = c.loop-place.place in
    let step = c.index-self-number.result in
    let read = get_or e.steps.now (get_or c.deref-number-items.result.now place 0) step in
    let y : Step = record { rule = read.rule; fact = c.in_ok-told.field-0; uses = c.in_ok-used.field-0 } in
    let here = picked_here e part.chosen.items c.deref-number-items.result.now part.uses.items place step c.index.result.now y c.deref-number-items.ensures.value c.loop-place-test.true c.requires.matched c.requires.within
    c.index-self-number.is c.index.ensures (ap (λ (x : KeptStep). x.rule) (sym c.index-self-number.is)) (search rules) c.in_ok-used.ensures in
    let pushed : c.push.new.self.items ≡ c.loop-place.steps.items ++ y ∷ [] = c.in_ok-push.ensures.items in (
      subst (EachSoFar (IsPickedStep e part.chosen.items part.uses.items) _) (sym pushed) (one_more (IsPickedStep e part.chosen.items part.uses.items) place c.loop-place.steps.items y c.loop-place.invariant.0 here),
      subst (All (λ (x : Step). HasTheseIds (kids_of e) x.fact)) (sym pushed) (All-push (λ (x : Step). HasTheseIds (kids_of e) x.fact) c.loop-place.steps.items y c.loop-place.invariant.1 (search rules)),
    )

pub returns-clause-picked : goal.returns-clause-picked
returns-clause-picked c =
    let part = c.args.part.now in
    all_picked c.args.self.now part.chosen.items c.deref-number-items.result.now part.uses.items c.loop-place.place c.loop-place.steps.items c.deref-number-items.ensures.value c.loop-place-test.false c.loop-place.auto.place-end c.loop-place.invariant.0

pub returns-clause-ids : goal.returns-clause-ids
returns-clause-ids c = c.loop-place.invariant.1
