use Rattle.std.proofs.Common.{◌≡◌, ◌∙◌, Some, ap, get_or, length, option_map, slice_get, subst, sym}
use Rattle.std.proofs.lemmas.Option.{slice_get-get_or}
use Rattle.krates_graph.specs.Graph.{HasEnds}
use Rattle.krates_queries.specs.Direct.{target_of}
use Rattle.krates_queries.proofs.queries.direct.dep_by.Goals as goal

pub standing_at-node-requires : goal.standing_at-node-requires
standing_at-node-requires g c =
    let edges = c.args.edges.now in
    let edge = c.index-edges-index.result in
    let same : get_or edges c.args.id edge ≡ edge = sym (c.index-edges-index.is ∙ ap (λ k. get_or edges k edge) c.index.ensures) in
    rw c.index-2.ensures (subst (HasEnds (length c.args.nodes.now)) same (c.requires.ends c.args.id edge c.requires.stands)).1

pub returns : goal.returns
returns g c =
    let edges = c.args.edges.now in
    let nodes = c.args.nodes.now in
    let edge = c.index-edges-index.result in
    let same : get_or edges c.args.id edge ≡ edge = sym (c.index-edges-index.is ∙ ap (λ k. get_or edges k edge) c.index.ensures) in
    ap (target_of nodes) (slice_get-get_or edges c.args.id edge c.requires.stands ∙ ap Some same)
    ∙ ap (option_map (λ node. (node, edge.weight))) (ap (slice_get nodes) (sym c.index-2.ensures) ∙ c.standing_at-node.ensures)
