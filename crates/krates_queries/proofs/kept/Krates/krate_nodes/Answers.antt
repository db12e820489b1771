use Rattle.std.proofs.Common.{◌<◌, ◌∙◌, All, List, ap, length, map, subst, sym}
use Rattle.krates_queries.specs.KrateNodes.{Match, numbered_crates}
use Rattle.krates_drawing.specs.Node.{CratesFirst, crate_ids}
use Rattle.krates_queries.proofs.KrateNodeLemmas.{all_below, as_many_matches, in_a_row, same_ids, same_values}
use Rattle.krates_queries.proofs.kept.Krates.krate_nodes.Goals as goal

pub returns-clause-all : goal.returns-clause-all
returns-clause-all g c = ap (numbered_crates 0) c.nodes.ensures.nodes

pub returns-clause-numbers : goal.returns-clause-numbers
returns-clause-numbers g c =
    ap (λ nodes. map (λ m. m.number) (numbered_crates 0 nodes)) c.nodes.ensures.nodes
    ∙ in_a_row 0 c.args.self.now.graph.nodes (subst CratesFirst c.nodes.ensures.nodes c.nodes.ensures.are.first)

pub returns-clause-below : goal.returns-clause-below
returns-clause-below g c =
    let nodes = c.args.self.now.graph.nodes in
    subst (λ (ms : List (Match g.row.N.Denot)). All (λ (m : Match g.row.N.Denot). m.number < length (crate_ids nodes)) ms) (sym (ap (numbered_crates 0) c.nodes.ensures.nodes))
    (all_below nodes (subst CratesFirst c.nodes.ensures.nodes c.nodes.ensures.are.first))

pub returns-clause-ids : goal.returns-clause-ids
returns-clause-ids g c = ap (λ nodes. map (λ m. m.id) (numbered_crates 0 nodes)) c.nodes.ensures.nodes ∙ same_ids 0 c.args.self.now.graph.nodes

pub returns-clause-krates : goal.returns-clause-krates
returns-clause-krates g c = ap (λ nodes. map (λ m. m.krate) (numbered_crates 0 nodes)) c.nodes.ensures.nodes ∙ same_values 0 c.args.self.now.graph.nodes

pub returns-clause-matched : goal.returns-clause-matched
returns-clause-matched g c = ap (λ nodes. length (numbered_crates 0 nodes)) c.nodes.ensures.nodes ∙ as_many_matches 0 c.args.self.now.graph.nodes
