use Rattle.std.proofs.Common.{List, [], sym, subst}
use Rattle.krates_document.specs.Ids.{ids_view}
use Rattle.krates_document.specs.NamedPlaces.{AreInOrder, StandsUnder, no_target, places_in}
use Rattle.krates_document.specs.declared.named_places.NamedPlace.{NamedPlace}
use Rattle.krates_questions.specs.Lookup.{resolved_view}
use Rattle.krates_questions.specs.NameIndex.{AreDepsOf}
use Rattle.krates_rules.specs.Admission.{AreDepIds}
use Rattle.krates_rules.proofs.Readings.{right_of}
use Rattle.krates_questions.proofs.ListPlaces.{names_at, names_within}
use Rattle.krates_questions.proofs.RenamedPlaces.{renamed_at, renamed_within}
use Rattle.krates_questions.proofs.LeastReferents.{AreLookedAt, least_within, none_of_none, referent_told}
use Rattle.krates_questions.proofs.questions.Document.referent_of.Goals as goal

pub index-requires : goal.index-requires
index-requires c =
    let d = c.self.inside.lookup in
    let p = (rw (← c.self.view_is) at c.requires.parts) in
    names_within AreDepsOf (resolved_view d).graph.nodes d.names.deps c.args.parts.now.place.index p.at.node c.self.invariant.names.deps p.at.at

pub places_under-own-requires : goal.places_under-own-requires
places_under-own-requires c =
    let d = c.self.inside.lookup in
    let p = (rw (← c.self.view_is) at c.requires.parts) in
    let own = names_at AreDepsOf (resolved_view d).graph.nodes d.names.deps c.args.parts.now.place.index p.at.node c.index.result.now c.self.invariant.names.deps p.at.at c.index.ensures in
    subst AreInOrder (sym c.deref.ensures.value) own.sorted

pub index-requires-2 : goal.index-requires-2
index-requires-2 c =
    let d = c.self.inside.lookup in
    let p = (rw (← c.self.view_is) at c.requires.parts) in
    let kids = right_of AreDepIds (resolved_view d).graph.nodes (ids_view d.ids.now).deps c.args.parts.now.place.index p.at.node c.self.invariant.ids.deps p.at.at in
    renamed_within d c.args.parts.now.place.index p.at.node kids.0 c.self.invariant p.at.at kids.1

pub places_under-of_package-requires : goal.places_under-of_package-requires
places_under-of_package-requires c =
    let d = c.self.inside.lookup in
    let p = (rw (← c.self.view_is) at c.requires.parts) in
    let kids = right_of AreDepIds (resolved_view d).graph.nodes (ids_view d.ids.now).deps c.args.parts.now.place.index p.at.node c.self.invariant.ids.deps p.at.at in
    let children = renamed_at c.one_reading.ensures.once d c.args.parts.now.place.index p.at.node kids.0 c.index-2.result.now c.self.invariant p.at.at kids.1 c.index-2.ensures in
    subst AreInOrder (sym c.deref-2.ensures.value) children.sorted

pub least_answering-requires-clause-before : goal.least_answering-requires-clause-before
least_answering-requires-clause-before c =
    let r = resolved_view c.self.inside.lookup in
    let parts = c.args.parts.now in
    let name = c.args.name.now in
    least_within r parts name (places_in c.places_under-own.result.now) c.least_answering-least.result ((rw (← c.self.view_is) at c.least_answering-least.ensures) [] (none_of_none r parts name))

pub returns : goal.returns
returns c =
    rw (← c.self.view_is) (let d = c.self.inside.lookup in
    let r = resolved_view d in
    let parts = c.args.parts.now in
    let name = c.args.name.now in
    let p = (rw (← c.self.view_is) at c.requires.parts) in
    let own = names_at AreDepsOf r.graph.nodes d.names.deps parts.place.index p.at.node c.index.result.now c.self.invariant.names.deps p.at.at c.index.ensures in
    let kids = right_of AreDepIds r.graph.nodes (ids_view d.ids.now).deps parts.place.index p.at.node c.self.invariant.ids.deps p.at.at in
    let children = renamed_at c.one_reading.ensures.once d parts.place.index p.at.node kids.0 c.index-2.result.now c.self.invariant p.at.at kids.1 c.index-2.ensures in
    let these = places_in c.places_under-own.result.now in
    let those = places_in c.places_under-of_package.result.now in
    let seen : AreLookedAt name c.index.result.now.items these = record { each = λ k s. c.places_under-own.ensures k (subst (λ (all : List NamedPlace). StandsUnder all name no_target k) (sym c.deref.ensures.value) s) } in
    let shown : AreLookedAt name c.index-2.result.now.items those = record { each = λ k s. c.places_under-of_package.ensures k (subst (λ (all : List NamedPlace). StandsUnder all name no_target k) (sym c.deref-2.ensures.value) s) } in
    let first = (rw (← c.self.view_is) at c.least_answering-least.ensures) [] (none_of_none r parts name) in
    referent_told c.one_reading.ensures.once r parts name kids.0 c.index.result.now.items c.index-2.result.now.items these those c.least_answering.result c.self.invariant.distinct p kids.2 own children seen shown ((rw (← c.self.view_is) at c.least_answering.ensures) these first))
