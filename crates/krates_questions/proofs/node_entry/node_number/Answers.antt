use Rattle.krates_rules.proofs.Standings.{contains_at}
use Rattle.krates_questions.proofs.CratesOfNodes.{node_has_number, node_number_within, node_numbered}
use Rattle.krates_cm.specs.Document.{NodeModel}
use Rattle.krates_questions.specs.Lookup.{resolved_view}
use Rattle.krates_rules.specs.Resolved.{HasNode}
use Rattle.krates_questions.proofs.node_entry.node_number.Goals as goal

pub index-requires : goal.index-requires
index-requires c = node_number_within c.document.inside.lookup c.args.place.index c.document.invariant (rw (← c.document.view_is) at c.requires.within)

pub returns-clause-number : goal.returns-clause-number
returns-clause-number c = rw (← c.document.view_is) (λ i at. node_numbered c.one_reading.ensures.once c.document.inside.lookup c.args.place.index i c.index.result.now c.document.invariant at c.index.ensures)

pub returns-clause-has_one : goal.returns-clause-has_one
returns-clause-has_one c =
    rw (← c.document.view_is) (λ i at. (
    let d = c.document.inside.lookup in
    let once = c.one_reading.ensures.once in
    let has : (n : NodeModel) × HasNode (resolved_view d) i n = (at.node, record { among = contains_at (resolved_view d).graph.nodes c.args.place.index at.node at.at; id = at.id }) in
    node_has_number once d i c.index.result.now c.document.invariant has (node_numbered once d c.args.place.index i c.index.result.now c.document.invariant at c.index.ensures)))
