use Rattle.std.proofs.Common.{◌↔◌, ℕ, IsTrue, refl, sym, subst}
use Rattle.std.proofs.lemmas.Option.{slice_get_within}
use Rattle.krates_cm.specs.Document.{dependency_view}
use Rattle.krates_questions.specs.Lookup.{resolved_view}
use Rattle.krates_questions.specs.NodeEntry.{AreParts}
use Rattle.krates_questions.proofs.Asked.{parts_told}
use Rattle.krates_rules.specs.Facts.{Id}
use Rattle.krates_rules.specs.Resolved.{id_of}
use Rattle.krates_build_tables.specs.Leading.{EachHas}
use Rattle.krates_build_tables.specs.Pairs.{PairsFor}
use Rattle.krates_build_tables.proofs.ChildFeatures.{each_of_none}
use Rattle.krates_build_tables.proofs.leading.each_child_has.Goals as goal

pub parts_of-requires : goal.parts_of-requires
parts_of-requires c =
    let at = c.in-Some.ensures in
    record { within = slice_get_within (resolved_view c.args.document.now).graph.nodes c.in-Some.place.index at.node at.at }

pub each_of_node_has-requires : goal.each_of_node_has-requires
each_of_node_has-requires c = subst (λ (n : ℕ). AreParts (resolved_view c.args.document.now) n c.parts_of.result) (sym c.parts_of.ensures.place_is) c.parts_of.ensures

pub returns-in-Some : goal.returns-in-Some
returns-in-Some c =
    let r = resolved_view c.args.document.now in
    let d = dependency_view c.args.declared.now in
    let f = c.args.feature.now in
    let of = parts_told c.one_reading.ensures.once c.args.document.now (id_of c.args.krate.now) c.in-Some.place.index c.parts_of.result c.in-Some.ensures c.parts_of.ensures in
    subst (λ (i : Id). IsTrue c.each_of_node_has.result ↔ EachHas r f (PairsFor r i d)) of.parent c.each_of_node_has.ensures

pub returns-in-None : goal.returns-in-None
returns-in-None c = (λ t. each_of_none (resolved_view c.args.document.now) (id_of c.args.krate.now) (dependency_view c.args.declared.now) c.args.feature.now c.in-None.ensures, λ each. refl)
