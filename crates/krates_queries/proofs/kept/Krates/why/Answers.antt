use Rattle.std.proofs.Common.{◌≡◌, ◌∙◌, Bor, List, Some, arith, length, map, option_map, rules, sym, subst, ap}
use Rattle.std.proofs.lemmas.Option.{slice_get_within}
use Rattle.std.specs.List.{slice_get}
use Rattle.krates_drawing.specs.Node.{crate_ids}
use Rattle.krates_ids.specs.Identity.{Identity}
use Rattle.krates_selection.specs.KeptFacts.{IsStepOf, kids_of}
use Rattle.krates_selection.specs.declared.kept.Explanation.{Explanation}
use Rattle.krates_selection.specs.declared.kept.KeptStep.{KeptStep}
use Rattle.krates_queries.proofs.ReachedLemmas.{past}
use Rattle.krates_queries.proofs.WhyLemmas.{is_explanation, is_why}
use Rattle.krates_queries.specs.Why.{AreExplained, node_says}
use Rattle.krates_queries.specs.Kept.{AreNodes, ids_of}
use Rattle.krates_queries.proofs.kept.Krates.why.Goals as goal

pub derivation_of-requires-clause-explanation : goal.derivation_of-requires-clause-explanation
derivation_of-requires-clause-explanation g c =
    let k = c.args.self.now in
    let e : Explanation = record { kids = c.deref.result; steps = c.steps-steps.result } in
    let ids : kids_of e ≡ ids_of k = ap (λ (xs : List (Bor Identity)). map (λ (b : Bor Identity). b.now) xs) c.deref.ensures.value ∙ c.in_ok-kids.ensures ∙ ap crate_ids c.nodes-2.ensures.nodes in
    is_explanation k e ids c.steps-steps.ensures.steps (subst (AreExplained k.graph.nodes) c.steps-steps.ensures.steps c.steps-steps.ensures.explained)

pub derivation_of-requires-clause-within : goal.derivation_of-requires-clause-within
derivation_of-requires-clause-within g c =
    let found = c.in-Some-step_of.ensures in
    slice_get_within c.steps-steps.result.now c.in-Some-step_of.number found.step found.at

pub returns-in_default : goal.returns-in_default
returns-in_default g c =
    let beyond = past c.nodes.result.now c.index.result (sym c.in_default.ensures) in
    let same = ap length c.nodes.ensures.nodes in
    omega (arith, beyond, same, c.index.ensures)

pub returns : goal.returns
returns g c =
    let k = c.args.self.now in
    let n = c.args.node in
    let node = c.in-Some.there.now in
    let steps = c.in_ok-derivation.derivation.steps.items in
    let number = c.in-Some-step_of.number in
    let here : slice_get c.nodes.result.now c.index.result ≡ Some node = sym c.node_at.ensures ∙ ap (option_map (λ b. b.now)) c.in-Some.is in
    let at : slice_get k.graph.nodes n ≡ Some node = subst (λ ns. slice_get ns n ≡ Some node) c.nodes.ensures.nodes (subst (λ i. slice_get c.nodes.result.now i ≡ Some node) c.index.ensures here) in
    let same = c.steps-steps.ensures.steps in
    let found : IsStepOf k.steps (node_says n node) number = subst (λ (xs : List KeptStep). IsStepOf xs (node_says n node) number) same (search rules) in
    let e : Explanation = record { kids = c.deref.result; steps = c.steps-steps.result } in
    let ids : kids_of e ≡ ids_of k = ap (λ (xs : List (Bor Identity)). map (λ (b : Bor Identity). b.now) xs) c.deref.ensures.value ∙ c.in_ok-kids.ensures ∙ ap crate_ids c.nodes-2.ensures.nodes in
    let are = subst AreNodes c.nodes.ensures.nodes c.nodes.ensures.are in
    let explained = subst (AreExplained k.graph.nodes) same c.steps-steps.ensures.explained in
    is_why k n node number steps are explained at found e ids same c.in_ok-derivation.ensures
