use Rattle.std.proofs.Common.{◌≡◌, ◌∙◌, All, Bor, List, map, subst, ap}
use Rattle.std.proofs.lemmas.Result.{IfOk-weaker}
use Rattle.std.specs.Global.{Vec}
use Rattle.krates_drawing.specs.Node.{crate_ids}
use Rattle.krates_ids.specs.Identity.{Identity}
use Rattle.krates_rules.specs.StepViews.{facts_view}
use Rattle.krates_rules.specs.declared.derivation.Fact.{Fact}
use Rattle.krates_selection.specs.KeptFacts.{HasTheseIds, explained_steps, kids_of, facts_in}
use Rattle.krates_selection.specs.declared.kept.Explanation.{Explanation}
use Rattle.krates_queries.proofs.WhyLemmas.{is_explanation, same_steps}
use Rattle.krates_queries.specs.Why.{AreExplained, steps_of}
use Rattle.krates_queries.specs.Kept.{ids_of}
use Rattle.krates_queries.proofs.kept.Krates.facts.Goals as goal

pub returns-in_err-kids-clause-once : goal.returns-in_err-kids-clause-once
returns-in_err-kids-clause-once g c = (subst (AreExplained c.args.self.now.graph.nodes) c.steps-steps.ensures.steps c.steps-steps.ensures.explained).own

pub facts-requires : goal.facts-requires
facts-requires g c =
    let k = c.args.self.now in
    let e : Explanation = record { kids = c.deref.result; steps = c.steps-steps.result } in
    let ids : kids_of e ≡ ids_of k = ap (λ (xs : List (Bor Identity)). map (λ (b : Bor Identity). b.now) xs) c.deref.ensures.value ∙ c.in_ok-kids.ensures ∙ ap crate_ids c.nodes.ensures.nodes in
    (is_explanation k e ids c.steps-steps.ensures.steps (subst (AreExplained k.graph.nodes) c.steps-steps.ensures.steps c.steps-steps.ensures.explained)).below

pub returns-clause-facts : goal.returns-clause-facts
returns-clause-facts g c =
    let k = c.args.self.now in
    let e : Explanation = record { kids = c.deref.result; steps = c.steps-steps.result } in
    let ids : kids_of e ≡ ids_of k = ap (λ (xs : List (Bor Identity)). map (λ (b : Bor Identity). b.now) xs) c.deref.ensures.value ∙ c.in_ok-kids.ensures ∙ ap crate_ids c.nodes.ensures.nodes in
    IfOk-weaker c.facts.result (λ (v : Vec Fact). facts_view v.items ≡ facts_in (explained_steps e)) (λ (v : Vec Fact). facts_view v.items ≡ facts_in (steps_of k)) (λ v h. h ∙ ap facts_in (same_steps k e ids c.steps-steps.ensures.steps)) c.facts.ensures.facts

pub returns-clause-once : goal.returns-clause-once
returns-clause-once g c = (subst (AreExplained c.args.self.now.graph.nodes) c.steps-steps.ensures.steps c.steps-steps.ensures.explained).own

pub returns-clause-ids : goal.returns-clause-ids
returns-clause-ids g c =
    let k = c.args.self.now in
    let e : Explanation = record { kids = c.deref.result; steps = c.steps-steps.result } in
    let ids : kids_of e ≡ ids_of k = ap (λ (xs : List (Bor Identity)). map (λ (b : Bor Identity). b.now) xs) c.deref.ensures.value ∙ c.in_ok-kids.ensures ∙ ap crate_ids c.nodes.ensures.nodes in
    IfOk-weaker c.facts.result (λ (v : Vec Fact). All (HasTheseIds (kids_of e)) v.items) (λ (v : Vec Fact). All (HasTheseIds (ids_of k)) v.items) (λ v h. subst (λ (is : List Identity). All (HasTheseIds is) v.items) ids h) c.facts.ensures.ids
