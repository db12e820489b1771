use Rattle.std.proofs.Common.{List, sym, subst}
use Rattle.std.proofs.lemmas.Option.{slice_get_within}
use Rattle.krates_document.specs.DeclaredPlaces.{AreDeclaredPlaces}
use Rattle.krates_document.specs.declared.named_places.NamedPlace.{NamedPlace}
use Rattle.krates_questions.specs.Lookup.{resolved_view}
use Rattle.krates_questions.specs.NameIndex.{AreDeclaredIn}
use Rattle.krates_questions.specs.NodeEntry.{parent_of}
use Rattle.krates_questions.proofs.Declared.{none_placed, placed_here}
use Rattle.krates_questions.proofs.ListPlaces.{names_at, names_within}
use Rattle.krates_questions.proofs.node_entry.places_for.Goals as goal

pub node_number-requires : goal.node_number-requires
node_number-requires c =
    let at = c.requires.entry.at.node in
    record { within = slice_get_within (resolved_view c.args.document.now).graph.nodes c.args.entry.now.place.index at.node at.at }

pub package_place_at-requires : goal.package_place_at-requires
package_place_at-requires c = record { number = (parent_of c.args.entry.now, c.node_number.ensures.number (parent_of c.args.entry.now) c.requires.entry.at.node) }

pub index-requires : goal.index-requires
index-requires c =
    let d = c.document.inside.lookup in
    let i = parent_of c.args.entry.now in
    let at = (rw (← c.document.view_is) at (c.in-Some.ensures i (c.node_number.ensures.number i c.requires.entry.at.node))) in
    names_within AreDeclaredIn (resolved_view d).metadata.packages d.names.declared c.in-Some.place at.pkg c.document.invariant.names.declared at.at

pub returns-in-Some : goal.returns-in-Some
returns-in-Some c =
    let i = parent_of c.args.entry.now in
    let there = (rw (← c.document.view_is) at (c.in-Some.ensures i (c.node_number.ensures.number i c.requires.entry.at.node))) in
    rw (← c.document.view_is) (λ ds by_package. let d = c.document.inside.lookup in
    let r = resolved_view d in
    let named = names_at AreDeclaredIn r.metadata.packages d.names.declared c.in-Some.place there.pkg c.index.result.now c.document.invariant.names.declared there.at c.index.ensures in
    subst (λ (places : List NamedPlace). AreDeclaredPlaces ds places) (sym c.deref.ensures.value) (placed_here r i c.in-Some.place there ds c.index.result.now.items by_package named))

pub returns-in-None : goal.returns-in-None
returns-in-None c ds by_package =
    let i = parent_of c.args.entry.now in
    none_placed (resolved_view c.args.document.now) i ds (c.in-None.ensures i (c.node_number.ensures.number i c.requires.entry.at.node)) by_package
