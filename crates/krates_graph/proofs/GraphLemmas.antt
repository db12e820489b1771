-- How the lists of edge numbers change with the edges, and which edges they give.
use Rattle.std.proofs.Common.{◌≡◌, ◌≢◌, ℕ, zero, suc, ◌+◌, ◌<◌, ◌==◌, List, [], ◌∷◌, ◌++◌, Bool, true, false, cond, Some, length, get_or, set, map, refl, sym, ◌∙◌, ap, inl, inr, arith, length-append}
use Rattle.std.specs.List.{All, enumerate_from, filter, slice_get}
use Rattle.std.proofs.lemmas.Bool.Decides.{eqb_tells}
use Rattle.std.proofs.lemmas.List.{append-nil, map-append, get_or-set_same, get_or-set_other}
use Rattle.std.proofs.lemmas.List.Elements.{All-filter, All-map, All-push, All-weaker, filter-append}
use Rattle.std.proofs.lemmas.List.FromFn.{length-enumerate_from, get_or-enumerate_from}
use Rattle.std.proofs.Math.ListN.{length-set}
use Rattle.krates_graph.specs.declared.graph.edge.Direction.{Direction}
use Rattle.krates_graph.specs.declared.graph.edge.Direction.TheVariants.{Outgoing, Incoming}
use Rattle.krates_graph.specs.declared.graph.edge.GraphEdge.{GraphEdge}
use Rattle.krates_graph.specs.Graph.{HasEnds, edges_at, end_of, is_at, numbered, numbers_at}
use Rattle.krates_graph.specs.Adjacency.{Indexes, IsIndexed}

-- a node without edges reads like no node
pub get_or-push_nil : {A : Type 0} (lists : List (List A)) (node : ℕ) → get_or (lists ++ [] ∷ []) node [] ≡ get_or lists node []
get_or-push_nil [] zero = refl
get_or-push_nil [] (suc node) = refl
get_or-push_nil (x ∷ xs) zero = refl
get_or-push_nil (x ∷ xs) (suc node) = get_or-push_nil xs node

-- one more item has the next number
pub enumerate_from-push : {A : Type 0} (n : ℕ) (xs : List A) (x : A) → enumerate_from n (xs ++ x ∷ []) ≡ enumerate_from n xs ++ (n + length xs, x) ∷ []
enumerate_from-push n [] x = let e : n ≡ n + length {A = ℕ} [] = omega arith in ap (λ k. (k, x) ∷ []) e
enumerate_from-push n (y ∷ ys) x =
    let e : (n + 1) + length ys ≡ n + length (y ∷ ys) = omega arith in
    ap (λ zs. (n, y) ∷ zs) (enumerate_from-push (n + 1) ys x ∙ ap (λ k. enumerate_from (n + 1) ys ++ (k, x) ∷ []) e)

-- the edges of a node after one more edge
pub edges_at-push : {E : Type 0} (edges : List (GraphEdge E)) (e : GraphEdge E) (node : ℕ) (d : Direction)
    → edges_at (edges ++ e ∷ []) node d ≡ edges_at edges node d ++ cond (end_of d e == node) ((length edges, e) ∷ []) []
edges_at-push edges e node d =
    let k : 0 + length edges ≡ length edges = omega arith in
    ap (filter (is_at node d)) (enumerate_from-push 0 edges e ∙ ap (λ n. enumerate_from 0 edges ++ (n, e) ∷ []) k)
    ∙ filter-append (is_at node d) (enumerate_from 0 edges) ((length edges, e) ∷ [])

-- their numbers, at the node where the edge is added and at any other
pub numbers_at-push : {E : Type 0} (edges : List (GraphEdge E)) (e : GraphEdge E) (node : ℕ) (d : Direction)
    → numbers_at (edges ++ e ∷ []) node d ≡ numbers_at edges node d ++ cond (end_of d e == node) (length edges ∷ []) []
numbers_at-push {E} edges e node d =
    ap (map (λ (p : ℕ × GraphEdge E). p.0)) (edges_at-push edges e node d)
    ∙ map-append (λ (p : ℕ × GraphEdge E). p.0) (edges_at edges node d) (cond (end_of d e == node) ((length edges, e) ∷ []) [])
    ∙ ap (λ ns. numbers_at edges node d ++ ns) (named (end_of d e == node))
  where
    named : (b : Bool) → map (λ (p : ℕ × GraphEdge E). p.0) (cond b ((length edges, e) ∷ []) []) ≡ cond b (length edges ∷ []) []
    named true = refl
    named false = refl

-- the lists after one more node, which has no edges
pub Indexes-push_node : {E : Type 0} (lists : List (List ℕ)) (edges : List (GraphEdge E)) (d : Direction) → Indexes lists edges d → Indexes (lists ++ [] ∷ []) edges d
Indexes-push_node lists edges d h node = get_or-push_nil lists node ∙ h node

-- the lists after one more edge, whose number goes to the end of its node's list
pub Indexes-push_edge : {E : Type 0} (lists : List (List ℕ)) (edges : List (GraphEdge E)) (d : Direction) (e : GraphEdge E)
    → end_of d e < length lists → Indexes lists edges d
    → Indexes (set lists (end_of d e) (get_or lists (end_of d e) [] ++ length edges ∷ [])) (edges ++ e ∷ []) d
Indexes-push_edge lists edges d e within h node =
    elim (eqb_tells (end_of d e) node) [
      | inl w ↦
          rw (numbers_at-push edges e node d, w.0, ← w.1, get_or-set_same lists (end_of d e) (get_or lists (end_of d e) [] ++ length edges ∷ []) [] within)
          (ap (λ ns. ns ++ length edges ∷ []) (h (end_of d e)))
      | inr w ↦
          let other : node ≢ end_of d e = λ same. w.1 (sym same) in
          rw (numbers_at-push edges e node d, w.0, get_or-set_other lists (end_of d e) node (get_or lists (end_of d e) [] ++ length edges ∷ []) [] other)
          (h node ∙ sym (append-nil (numbers_at edges node d)))
    ]

-- each number of a node's list is the number of an edge
pub numbers_at-below : {E : Type 0} (edges : List (GraphEdge E)) (node : ℕ) (d : Direction) → All (λ number. number < length edges) (numbers_at edges node d)
numbers_at-below {E} edges node d =
    All-map (λ number. number < length edges) (λ (p : ℕ × GraphEdge E). p.0) (edges_at edges node d)
    (All-filter (is_at node d) (λ (p : ℕ × GraphEdge E). p.0 < length edges) (enumerate_from 0 edges) below)
  where
    below : All (λ (p : ℕ × GraphEdge E). p.0 < length edges) (enumerate_from 0 edges)
    below k x h =
        let lt : k < length edges = omega (arith, h, length-enumerate_from 0 edges) in
        rw (get_or-enumerate_from 0 edges k x lt) (omega arith)

-- the edges with the numbers that a filter leaves, where the remaining edges begin at number `n`
numbered-filter : {E : Type 0} (all : List (GraphEdge E)) (test : ℕ × GraphEdge E → Bool) (n : ℕ) (rest : List (GraphEdge E))
    → ((k : ℕ) → slice_get all (n + k) ≡ slice_get rest k)
    → numbered all (map (λ (p : ℕ × GraphEdge E). p.0) (filter test (enumerate_from n rest))) ≡ filter test (enumerate_from n rest)
numbered-filter all test n [] h = refl
numbered-filter {E} all test n (e ∷ rest) h =
    let first : slice_get all n ≡ Some e = let k : n ≡ n + 0 = omega arith in ap (slice_get all) k ∙ h 0 in
    let others : (k : ℕ) → slice_get all ((n + 1) + k) ≡ slice_get rest k =
    λ k. let s : (n + 1) + k ≡ n + suc k = omega arith in ap (slice_get all) s ∙ h (suc k) in
    let after = numbered-filter all test (n + 1) rest others in
    elim (test (n, e)) as (λ b. numbered all (map (λ (p : ℕ × GraphEdge E). p.0) (cond b ((n, e) ∷ filter test (enumerate_from (n + 1) rest)) (filter test (enumerate_from (n + 1) rest)))) ≡ cond b ((n, e) ∷ filter test (enumerate_from (n + 1) rest)) (filter test (enumerate_from (n + 1) rest))) [
      | true ↦ rw first (ap (λ zs. (n, e) ∷ zs) after)
      | false ↦ after
    ]

-- reading the edges of a node's numbers gives the edges of the node
pub numbered-numbers_at : {E : Type 0} (edges : List (GraphEdge E)) (node : ℕ) (d : Direction) → numbered edges (numbers_at edges node d) ≡ edges_at edges node d
numbered-numbers_at edges node d =
    numbered-filter edges (is_at node d) 0 edges (λ k. let s : 0 + k ≡ k = omega arith in ap (slice_get edges) s)

-- the ends of edges are still nodes after one more node
pub HasEnds-more : {E : Type 0} (n : ℕ) (edges : List (GraphEdge E)) → All (HasEnds n) edges → All (HasEnds (n + 1)) edges
HasEnds-more n edges h = All-weaker (HasEnds n) (HasEnds (n + 1)) (λ e w. (omega arith, omega arith)) edges h

-- a graph after one more node
pub IsIndexed-push_node : {N E : Type 0} (nodes : List N) (edges : List (GraphEdge E)) (node_limit edge_limit : ℕ) (outgoing incoming : List (List ℕ)) (value : N)
    → IsIndexed nodes edges node_limit edge_limit outgoing incoming → length nodes < node_limit
    → IsIndexed (nodes ++ value ∷ []) edges node_limit edge_limit (outgoing ++ [] ∷ []) (incoming ++ [] ∷ [])
IsIndexed-push_node {N} nodes edges node_limit edge_limit outgoing incoming value h room =
    let more : length (nodes ++ value ∷ []) ≡ length nodes + 1 = omega (arith, length-append nodes (value ∷ [])) in
    record {
      nodes_fit = omega (arith, more, room);
      edges_fit = h.edges_fit;
      ends = rw more (HasEnds-more (length nodes) edges h.ends);
      outgoing_len = omega (arith, more, h.outgoing_len, length-append outgoing ([] ∷ []));
      incoming_len = omega (arith, more, h.incoming_len, length-append incoming ([] ∷ []));
      outgoing_lists = Indexes-push_node outgoing edges Outgoing h.outgoing_lists;
      incoming_lists = Indexes-push_node incoming edges Incoming h.incoming_lists;
    }

-- a graph after one more edge between two of its nodes
pub IsIndexed-push_edge : {N E : Type 0} (nodes : List N) (edges : List (GraphEdge E)) (node_limit edge_limit : ℕ) (outgoing incoming : List (List ℕ)) (e : GraphEdge E)
    → IsIndexed nodes edges node_limit edge_limit outgoing incoming → length edges < edge_limit → HasEnds (length nodes) e
    → IsIndexed nodes (edges ++ e ∷ []) node_limit edge_limit
    (set outgoing e.source (get_or outgoing e.source [] ++ length edges ∷ []))
    (set incoming e.target (get_or incoming e.target [] ++ length edges ∷ []))
IsIndexed-push_edge nodes edges node_limit edge_limit outgoing incoming e h room ends =
    record {
      nodes_fit = h.nodes_fit;
      edges_fit = omega (arith, room, length-append edges (e ∷ []));
      ends = All-push (HasEnds (length nodes)) edges e h.ends ends;
      outgoing_len = length-set outgoing e.source (get_or outgoing e.source [] ++ length edges ∷ []) ∙ h.outgoing_len;
      incoming_len = length-set incoming e.target (get_or incoming e.target [] ++ length edges ∷ []) ∙ h.incoming_len;
      outgoing_lists = Indexes-push_edge outgoing edges Outgoing e (rw h.outgoing_len ends.0) h.outgoing_lists;
      incoming_lists = Indexes-push_edge incoming edges Incoming e (rw h.incoming_len ends.1) h.incoming_lists;
    }

-- reading the edges of some numbers, from the first on
pub numbered-cons : {E : Type 0} (edges : List (GraphEdge E)) (numbers : List ℕ) (number : ℕ) (rest : List ℕ) (e : GraphEdge E)
    → numbers ≡ number ∷ rest → slice_get edges number ≡ Some e → numbered edges numbers ≡ (number, e) ∷ numbered edges rest
numbered-cons edges numbers number rest e split found = rw (split, found) refl
