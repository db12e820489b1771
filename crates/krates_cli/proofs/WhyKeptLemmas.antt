-- The derivation of a kept crate.
use Rattle.std.proofs.Common.{◌≡◌, ◌<◌, ◌∙◌, ℕ, List, Some, length, sym, ap, subst}
use Rattle.std.proofs.lemmas.Option.{same_Some, slice_get_within}
use Rattle.std.specs.List.{slice_get}
use Rattle.krates_cm.specs.Document.{Text}
use Rattle.krates_rules.specs.DerivationTexts.{derivation_lines}
use Rattle.krates_rules.specs.StepViews.{steps_view}
use Rattle.krates_rules.specs.declared.derivation.Step.{Step}
use Rattle.krates_graph.specs.Graph.{StoredGraph}
use Rattle.krates_ids.specs.Identity.{Identity}
use Rattle.krates_rules.specs.Facts.{Id, Crate}
use Rattle.krates_rules.specs.Resolved.{StandsAt, id_of}
use Rattle.krates_rules.specs.Steps.{EndsIn}
use Rattle.krates_queries.proofs.NodeLemmas.{crate_at}
use Rattle.krates_queries.specs.Kept.{KeptCrates, ids_of}
use Rattle.krates_drawing.specs.Node.{CratesFirst}
use Rattle.krates_queries.specs.Why.{IsWhy, node_fact}
use Rattle.krates_drawing.specs.declared.node.Node.{Node}
use Rattle.krates_cli.specs.WhyKept.{ExplainsKept}

pub same_first : {N E : Type 0} (g h : StoredGraph (Node N) E) → g ≡ h → CratesFirst g.nodes → CratesFirst h.nodes
same_first {N} {E} g h same first = subst (λ (x : StoredGraph (Node N) E). CratesFirst x.nodes) same first

-- the number of a kept crate is that of a node
pub is_node : {N E : Type 0} (k : KeptCrates N E) (krate : Identity) (n : ℕ) → CratesFirst k.graph.nodes → StandsAt (ids_of k) (id_of krate) n → n < length k.graph.nodes
is_node k krate n first stands = let w = crate_at k.graph.nodes n stands.there first stands.at in slice_get_within k.graph.nodes n w.node w.at

-- the node of a kept crate says that the crate is kept
says_crate : {N E : Type 0} (k : KeptCrates N E) (krate : Identity) (n : ℕ) (node : Node N) → CratesFirst k.graph.nodes → StandsAt (ids_of k) (id_of krate) n → slice_get k.graph.nodes n ≡ Some node
    → node_fact (ids_of k) node ≡ Crate (id_of krate)
says_crate k krate n node first stands at =
    let w = crate_at k.graph.nodes n stands.there first stands.at in
    ap (node_fact (ids_of k)) (same_Some node w.node (sym at ∙ w.at) ∙ w.is.is) ∙ ap (λ (i : Id). Crate i) stands.same

-- so its derivation is that of the crate
pub explains : {N E : Type 0} (k : KeptCrates N E) (krate : Identity) (n : ℕ) (steps : List Step) (lines : Text) → CratesFirst k.graph.nodes → StandsAt (ids_of k) (id_of krate) n → IsWhy k n steps
    → lines ≡ derivation_lines steps → ExplainsKept k krate lines
explains k krate n steps lines first stands why written = record {
  number = n;
  stands = stands;
  steps = steps;
  why = why;
  ends = subst (EndsIn (steps_view steps)) (says_crate k krate n why.node first stands why.at) why.ends;
  written = written;
}
