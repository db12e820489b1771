use Rattle.std.proofs.Common.{◌≡◌, IfOk, Some, filter, get_or, map, slice_get, subst, sym, arith, rules}
use Rattle.std.proofs.lemmas.Grind.{elements}
use Rattle.std.proofs.lemmas.Option.{get_or_from_slice_get}
use Rattle.krates_cm.specs.Document.{DependencyModel, dependency_view, node_view, package_view, text_view}
use Rattle.krates_questions.specs.Lookup.{resolved_view}
use Rattle.krates_rules.specs.Resolved.{HasNode, id_of}
use Rattle.krates_text.specs.Texts.{has_text}
use Rattle.krates_drawing.specs.Outline.{asked_by}
use Rattle.krates_drawing.specs.declared.gather.CrateRecord.{CrateRecord}
use Rattle.krates_drawing.proofs.Gathering.{record_read, seen_read}
use Rattle.krates_drawing.proofs.gather.given_by.Goals as goal

pub returns : goal.returns
returns c b =
    let records = c.args.records.now in
    let e = c.args.edge.now in
    let read = get_or records e.parent c.index-records-edge.result in
    let parent = get_or_from_slice_get records e.parent b.parent c.index-records-edge.result b.at_parent in
    let there = subst (λ (k : CrateRecord). slice_get (package_view k.pkg.now).dependencies e.declared ≡ Some b.dependency) (sym parent) b.declared in
    let declared = seen_read dependency_view read.pkg.now.dependencies.items e.declared c.index-declared.result.now b.dependency there c.index-declared.ensures in
    let child = record_read records e.child b.child c.index-records-edge-2.result b.at_child c.index-records-edge-2.is in
    subst (λ (k : CrateRecord). IfOk c.given_of.result (λ given. map text_view given.items ≡ filter (has_text (node_view k.node.now).features) (asked_by b.dependency))) child
    (subst (λ (d : DependencyModel). IfOk c.given_of.result (λ given. map text_view given.items ≡ filter (has_text (node_view c.index-records-edge-2.result.node.now).features) (asked_by d))) declared c.given_of.ensures)

pub given_of-requires : goal.given_of-requires
given_of-requires c =
    let child = record_read c.args.records.now c.args.edge.now.child c.requires.child c.index-records-edge-2.result c.requires.at_child c.index-records-edge-2.is in
    record { node = subst (λ (k : CrateRecord). HasNode (resolved_view c.args.document.now) (id_of k.krate) (node_view k.node.now)) (sym child) c.requires.node }

pub bounds-records-edge : goal.bounds-records-edge
bounds-records-edge c = grind (arith, elements)

pub bounds-records-edge-2 : goal.bounds-records-edge-2
bounds-records-edge-2 c = grind (arith, elements)

pub bounds-records-edge-3 : goal.bounds-records-edge-3
bounds-records-edge-3 c = grind (arith, elements)

pub index-declared-requires : goal.index-declared-requires
index-declared-requires c = grind (arith, elements)

pub offset_bounds-records-edge : goal.offset_bounds-records-edge
offset_bounds-records-edge c = let within = bounds-records-edge c in search rules

pub offset_bounds-records-edge-2 : goal.offset_bounds-records-edge-2
offset_bounds-records-edge-2 c = let within = bounds-records-edge-3 c in search rules
