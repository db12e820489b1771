use Rattle.std.proofs.Common.{◌≡◌, ℕ, suc, ◌<◌, List, [], ◌∷◌, All, Option, Some, length, option_map, slice_get, refl, ap, ◌∙◌}
use Rattle.std.proofs.lemmas.List.Elements.{recursion_from_All, All-contains}
use Rattle.std.specs.List.{AllByRecursion, cons_option}
use Rattle.krates_drawing.specs.declared.node.Node.{Node}
use Rattle.krates_graph.specs.declared.graph.edge.GraphEdge.{GraphEdge}
use Rattle.krates_queries.specs.Direct.{target_of, targets_of}
use Rattle.krates_graph.proofs.GraphLemmas.{numbers_at-below}
use Rattle.krates_graph.specs.declared.graph.edge.Direction.TheVariants.{Outgoing}
use Rattle.krates_graph.specs.Graph.{HasEnds, numbers_at}
use Rattle.krates_queries.proofs.DirectLemmas.{contains_got, got}
use Rattle.krates_queries.proofs.kept.Krates.get_deps.Goals as goal

cons_length : {A : Type 0} (o : Option A) (x : A) (xs : List A) → o ≡ Some x → length (cons_option o xs) ≡ suc (length xs)
cons_length o x xs e = ap (λ z. length (cons_option z xs)) e

as_many_targets : {N E : Type 0} (nodes : List (Node N)) (edges : List (GraphEdge E)) (numbers : List ℕ) → All (HasEnds (length nodes)) edges → All (λ number. number < length edges) numbers
    → length (targets_of nodes edges numbers) ≡ length numbers
as_many_targets {N} {E} nodes edges numbers ends within = each numbers (recursion_from_All (λ number. number < length edges) numbers within)
  where
    one : (n : ℕ) → n < length edges → (x : Node N × E) × (target_of nodes (slice_get edges n) ≡ Some x)
    one n lt =
        let e = got edges n lt in
        let end = All-contains (HasEnds (length nodes)) edges e.0 ends (contains_got edges n e.0 e.1) in
        let node = got nodes e.0.target end.1 in
        ((node.0, e.0.weight), ap (target_of nodes) e.1 ∙ ap (option_map (λ (z : Node N). (z, e.0.weight))) node.1)

    each : (ns : List ℕ) → AllByRecursion (λ number. number < length edges) ns → length (targets_of nodes edges ns) ≡ length ns
    each [] h = refl
    each (n ∷ ns) h = let w = one n h.0 in cons_length (target_of nodes (slice_get edges n)) w.0 (targets_of nodes edges ns) w.1 ∙ ap suc (each ns h.1)

pub invariant_of-result : goal.invariant_of-result
invariant_of-result g c = (
  rw c.raw_nodes.ensures.nodes c.raw_edges.ensures.ends,
  rw (c.edge_numbers.ensures, c.raw_edges.ensures.edges) (numbers_at-below c.graph-graph.result.now.edges c.args.node Outgoing),
)

pub returns-clause-all : goal.returns-clause-all
returns-clause-all g c =
    rw (c.edge_numbers.ensures, c.raw_edges.ensures.edges, c.raw_nodes.ensures.nodes, c.graph-graph.ensures.graph)
    (as_many_targets c.args.self.now.graph.nodes c.args.self.now.graph.edges (numbers_at c.args.self.now.graph.edges c.args.node Outgoing)
    (rw (c.raw_edges.ensures.edges, c.graph-graph.ensures.graph) at c.raw_edges.ensures.ends) (numbers_at-below c.args.self.now.graph.edges c.args.node Outgoing))
