use Rattle.std.proofs.Common.{◌≡◌, ◌+◌, All, take, sym, ap, ◌∙◌, subst, rules}
use Rattle.std.proofs.lemmas.List.{take_all}
use Rattle.std.proofs.lemmas.List.Elements.{All-push}
use Rattle.krates_rules.specs.StepViews.{facts_view}
use Rattle.krates_selection.proofs.ToldParts.{facts_more}
use Rattle.krates_selection.specs.KeptFacts.{HasTheseIds, kids_of, facts_in, steps_in}
use Rattle.krates_selection.proofs.kept.Explanation.facts.Goals as goal

pub loop-step-preserved : goal.loop-step-preserved
loop-step-preserved c =
    let kids = kids_of c.args.self.now in
    let xs = c.args.self.now.steps.now in
    let i = c.loop-step.step-index in
    let old = c.loop-step.facts.items in
    let y = c.in_ok-told.field-0 in (
      subst (λ fs. facts_view fs ≡ facts_in (steps_in kids (take (i + 1) xs))) (sym c.in_ok-push.ensures.items) (facts_more kids xs i c.step-item.result old y c.loop-step-test.true c.step-item.is (search rules) c.loop-step.invariant.0),
      subst (All (HasTheseIds kids)) (sym c.in_ok-push.ensures.items) (All-push (HasTheseIds kids) old y c.loop-step.invariant.1 (search rules)),
    )

pub returns-clause-facts : goal.returns-clause-facts
returns-clause-facts c =
    let kids = kids_of c.args.self.now in
    let xs = c.args.self.now.steps.now in
    c.loop-step.invariant.0 ∙ ap (λ zs. facts_in (steps_in kids zs)) (take_all c.loop-step.step-index xs c.loop-step-test.false)
