use Rattle.std.proofs.Common.{◌≡◌, ◌<◌, List, length, get_or, sym, subst, rules}
use Rattle.std.proofs.lemmas.Grind.{put_two}
use Rattle.krates_rules.specs.DerivationTexts.{step_line}
use Rattle.krates_rules.specs.declared.derivation.Step.{Step}
use Rattle.krates_rules.proofs.DerivationTexts.{lines_more}
use Rattle.krates_rules.proofs.derivation_texts.DerivationDisplay.fmt.Goals as goal

pub loop-number-preserved : goal.loop-number-preserved
loop-number-preserved g c = λ plain.
    let items = c.args.self.now.steps.items in
    let i = c.loop-number.number-counter in
    let x = c.step-item.result in
    let same : c.deref-step-items.result.now ≡ items = c.deref-step-items.ensures.value in
    let lt : i < length items = subst (λ (xs : List Step). i < length xs) same c.loop-number-test.true in
    let is : x ≡ get_or items i x = subst (λ (xs : List Step). x ≡ get_or xs i x) same c.step-item.is in
    put_two _ _ _ _ _ (step_line i x) _ (c.loop-number.invariant plain) (search rules) (sym (lines_more items i x lt is))
