use Rattle.krates_questions.proofs.CratesOfNodes.{dep_number_within, dep_numbered, dep_numbers_within, node_has_number}
use Rattle.krates_questions.proofs.node_entry.child_number_at.Goals as goal

pub index-requires : goal.index-requires
index-requires c =
    let there = (rw (← c.document.view_is) at c.requires.there) in
    dep_numbers_within c.document.inside.lookup there.0 there.1 c.args.place.index c.args.index c.document.invariant there.2

pub index-requires-2 : goal.index-requires-2
index-requires-2 c =
    let there = (rw (← c.document.view_is) at c.requires.there) in
    dep_number_within c.one_reading.ensures.once c.document.inside.lookup there.0 there.1 c.args.place.index c.args.index c.index.result.now c.document.invariant there.2 c.index.ensures

pub returns-clause-number : goal.returns-clause-number
returns-clause-number c =
    rw (← c.document.view_is) (λ parent child at. dep_numbered c.one_reading.ensures.once c.document.inside.lookup parent child c.args.place.index c.args.index c.index.result.now c.index-2.result.now c.document.invariant at c.index.ensures c.index-2.ensures)

pub returns-clause-has_one : goal.returns-clause-has_one
returns-clause-has_one c =
    rw (← c.document.view_is) (λ parent child at has. (
    let d = c.document.inside.lookup in
    let once = c.one_reading.ensures.once in
    node_has_number once d child c.index-2.result.now c.document.invariant has (dep_numbered once d parent child c.args.place.index c.args.index c.index.result.now c.index-2.result.now c.document.invariant at c.index.ensures c.index-2.ensures)))
