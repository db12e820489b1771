use Rattle.std.proofs.Common.{List, sym, subst}
use Rattle.krates_cm.specs.Document.{Text}
use Rattle.krates_document.specs.Ids.{ids_view}
use Rattle.krates_document.specs.NamedPlaces.{AreInOrder, StandsUnder, no_target, places_in}
use Rattle.krates_document.specs.declared.named_places.NamedPlace.{NamedPlace}
use Rattle.krates_questions.specs.Lookup.{resolved_view}
use Rattle.krates_questions.specs.NameIndex.{AreIdsNamed}
use Rattle.krates_rules.specs.Admission.{AreDepIds}
use Rattle.krates_rules.proofs.Readings.{right_of}
use Rattle.krates_questions.proofs.ListPlaces.{names_at, names_within}
use Rattle.krates_questions.proofs.ChildPlaces.{place_named}
use Rattle.krates_questions.proofs.LeastReferents.{AreLookedAt}
use Rattle.krates_questions.proofs.questions.Document.place_of_child.Goals as goal

pub index-requires : goal.index-requires
index-requires c =
    let d = c.self.inside.lookup in
    let p = (rw (← c.self.view_is) at c.requires.parts) in
    let kids = right_of AreDepIds (resolved_view d).graph.nodes (ids_view d.ids.now).deps c.args.parts.now.place.index p.at.node c.self.invariant.ids.deps p.at.at in
    names_within AreIdsNamed (ids_view d.ids.now).deps d.names.children c.args.parts.now.place.index kids.0 c.self.invariant.names.children kids.1

pub places_under-named-requires : goal.places_under-named-requires
places_under-named-requires c =
    let d = c.self.inside.lookup in
    let p = (rw (← c.self.view_is) at c.requires.parts) in
    let kids = right_of AreDepIds (resolved_view d).graph.nodes (ids_view d.ids.now).deps c.args.parts.now.place.index p.at.node c.self.invariant.ids.deps p.at.at in
    let names = names_at AreIdsNamed (ids_view d.ids.now).deps d.names.children c.args.parts.now.place.index kids.0 c.index.result.now c.self.invariant.names.children kids.1 c.index.ensures in
    subst AreInOrder (sym c.deref.ensures.value) names.sorted

pub returns : goal.returns
returns c =
    let d = c.self.inside.lookup in
    let p = (rw (← c.self.view_is) at c.requires.parts) in
    let parts = c.args.parts.now in
    let kids = right_of AreDepIds (resolved_view d).graph.nodes (ids_view d.ids.now).deps parts.place.index p.at.node c.self.invariant.ids.deps p.at.at in
    let names = names_at AreIdsNamed (ids_view d.ids.now).deps d.names.children parts.place.index kids.0 c.index.result.now c.self.invariant.names.children kids.1 c.index.ensures in
    let these = places_in c.places_under-named.result.now in
    let seen : AreLookedAt c.name.result.now c.index.result.now.items these = record { each = λ k s. c.places_under-named.ensures k (subst (λ (all : List NamedPlace). StandsUnder all c.name.result.now no_target k) (sym c.deref.ensures.value) s) } in
    let its = subst (λ (t : Text). AreLookedAt t c.index.result.now.items these) c.name.ensures seen in
    place_named c.one_reading.ensures.once p.at.node kids.0 parts.children.now c.index.result.now.items these c.args.child.now c.place_among.result kids.2 p.children names its c.place_among.ensures
