-- The derivation of a node.
use Rattle.std.proofs.Common.{◌≡◌, ℕ, All, List, Some, length, option_map, refl, sym, ap, ◌∙◌, subst}
use Rattle.std.proofs.lemmas.Option.{slice_get-map}
use Rattle.std.specs.List.{slice_get}
use Rattle.krates_rules.specs.StepViews.{steps_view}
use Rattle.krates_rules.specs.declared.derivation.Step.{Step}
use Rattle.krates_selection.specs.KeptFacts.{AreBelow, HasTheseIds, IsDerivationOf, IsExplanation, IsStepOf, explained_steps, kids_of, uses_in, fact_in, step_in, steps_in}
use Rattle.krates_selection.specs.PartOfSteps.{AreBackward}
use Rattle.krates_selection.specs.declared.kept.KeptStep.{KeptStep}
use Rattle.krates_selection.specs.declared.kept.Explanation.{Explanation}
use Rattle.krates_ids.specs.Identity.{Identity}
use Rattle.krates_rules.specs.Facts.{Id, Crate as CrateFact}
use Rattle.krates_rules.specs.Questions.{questions}
use Rattle.krates_rules.specs.StepParts.{HaveOwnFacts}
use Rattle.krates_rules.specs.Steps.{EachFollows, EndsIn, StepModel}
use Rattle.krates_queries.proofs.NodeLemmas.{crate_id, place_at}
use Rattle.krates_queries.specs.Why.{AreExplained, node_says, steps_of, IsWhy, node_fact}
use Rattle.krates_queries.specs.Kept.{AreNodes, KeptCrates, ids_of}
use Rattle.krates_drawing.specs.Node.{CratesFirst, crate_ids}
use Rattle.krates_drawing.specs.declared.node.Node.{Node}
use Rattle.krates_drawing.specs.declared.node.Node.TheVariants as nodes_are

-- the fact of a node is what the node says
says_fact : {N : Type 0} (nodes : List (Node N)) (n : ℕ) (node : Node N) → CratesFirst nodes → slice_get nodes n ≡ Some node → fact_in (crate_ids nodes) (node_says n node) ≡ node_fact (crate_ids nodes) node
says_fact nodes n (nodes_are.Krate id krate features mapping) first at = ap (λ (i : Id). CrateFact i) (crate_id (crate_ids nodes) n id (place_at nodes n id krate features mapping first at).0)
says_fact nodes n (nodes_are.Feature k name) first at = refl

-- what is lent with the ids of the graph's crates
pub same_steps : {N E : Type 0} (k : KeptCrates N E) (e : Explanation) → kids_of e ≡ ids_of k → e.steps.now ≡ k.steps → explained_steps e ≡ steps_of k
same_steps k e ids same = ap (λ (is : List Identity). steps_in is e.steps.now) ids ∙ ap (steps_in (ids_of k)) same

pub is_explanation : {N E : Type 0} (k : KeptCrates N E) (e : Explanation) → kids_of e ≡ ids_of k → e.steps.now ≡ k.steps → AreExplained k.graph.nodes k.steps → IsExplanation e
is_explanation k e ids same h = record {
  below = subst (λ (xs : List KeptStep). AreBelow (length (kids_of e)) xs) (sym same) (subst (λ (is : List Identity). AreBelow (length is) k.steps) (sym ids) h.below);
  backward = subst (λ (xs : List KeptStep). AreBackward (uses_in xs)) (sym same) h.backward;
}

pub is_why : {N E : Type 0} (k : KeptCrates N E) (n : ℕ) (node : Node N) (number : ℕ) (steps : List Step) → AreNodes k.graph.nodes → AreExplained k.graph.nodes k.steps → slice_get k.graph.nodes n ≡ Some node
    → IsStepOf k.steps (node_says n node) number → (e : Explanation) → kids_of e ≡ ids_of k → e.steps.now ≡ k.steps → IsDerivationOf e number steps → IsWhy k n steps
is_why k n node number steps are explained at found e ids same d =
    let kids = ids_of k in
    let whole = same_steps k e ids same in
    let x = step_in kids found.step in
    let there : slice_get (explained_steps e) number ≡ Some x = ap (λ (xs : List StepModel). slice_get xs number) whole ∙ slice_get-map (step_in kids) k.steps number ∙ ap (option_map (step_in kids)) found.at in
    let says : x.fact ≡ node_fact (ids_of k) node = ap (fact_in kids) found.says ∙ says_fact k.graph.nodes n node are.first at in
    record {
      node = node;
      at = at;
      ends = subst (EndsIn (steps_view steps)) says (d.ends x there);
      own = d.own (subst HaveOwnFacts (sym whole) explained.own);
      used = d.used;
      accepted = λ r s follows. d.accepted r s (subst (EachFollows (questions r s)) (sym whole) follows);
      ids = subst (λ (is : List Identity). All (λ (y : Step). HasTheseIds is y.fact) steps) ids d.ids;
    }
