use Rattle.std.proofs.Common.{refl}
use Rattle.krates_selection.proofs.PickedSteps.{all_chosen, chosen_next}
use Rattle.krates_selection.proofs.explaining.chosen.Goals as goal

pub loop-place-preserved : goal.loop-place-preserved
loop-place-preserved c =
    let part = c.args.part.now in
    chosen_next c.args.keys.now c.args.steps.now part.chosen.items c.deref-number-items.result.now part.uses.items c.loop-place.place c.index-keys-number.result c.index.result.now c.loop-place.kept.items c.push.new.self.items _ _ c.in_ok-push.ensures.items refl refl
    c.in_ok-fact_of.ensures c.deref-number-items.ensures.value c.loop-place-test.true c.requires.matched c.requires.long c.requires.within c.index-keys-number.is c.index.ensures c.loop-place.invariant

pub returns : goal.returns
returns c =
    let part = c.args.part.now in
    all_chosen c.args.keys.now c.args.steps.now part.chosen.items c.deref-number-items.result.now part.uses.items c.loop-place.place c.loop-place.kept.items c.deref-number-items.ensures.value c.loop-place-test.false c.loop-place.auto.place-end c.loop-place.invariant
