use Rattle.std.proofs.Common.{◌↔◌, Contains, ℕ, map, sym, subst}
use Rattle.std.proofs.lemmas.Result.{IfOk-weaker}
use Rattle.krates_cm.specs.Document.{dependency_view}
use Rattle.krates_questions.specs.Lookup.{resolved_view}
use Rattle.krates_questions.specs.NodeEntry.{AreParts}
use Rattle.krates_rules.specs.Facts.{Id}
use Rattle.krates_rules.specs.Resolved.{id_of}
use Rattle.krates_build_tables.specs.Pairs.{PairsFor, pair_view}
use Rattle.std.proofs.lemmas.Option.{slice_get_within}
use Rattle.krates_questions.proofs.Asked.{parts_told}
use Rattle.krates_build_tables.proofs.PairLemmas.{no_node_pairs}
use Rattle.krates_build_tables.proofs.pairs.pairs_for.Goals as goal

pub parts_of-requires : goal.parts_of-requires
parts_of-requires c =
    let at = c.in-Some.ensures in
    record { within = slice_get_within (resolved_view c.args.document.now).graph.nodes c.in-Some.place.index at.node at.at }

pub pairs_among-requires : goal.pairs_among-requires
pairs_among-requires c = subst (λ (n : ℕ). AreParts (resolved_view c.args.document.now) n c.parts_of.result) (sym c.parts_of.ensures.place_is) c.parts_of.ensures

pub returns-in-Some : goal.returns-in-Some
returns-in-Some c =
    let r = resolved_view c.args.document.now in
    let d = dependency_view c.args.declared.now in
    let of = parts_told c.one_reading.ensures.once c.args.document.now (id_of c.args.krate.now) c.in-Some.place.index c.parts_of.result c.in-Some.ensures c.parts_of.ensures in
    IfOk-weaker c.pairs_among.result _ _ (λ pairs told b. subst (λ (i : Id). PairsFor r i d b ↔ Contains (map pair_view pairs.items) b) of.parent (told b)) c.pairs_among.ensures

pub returns-in-None : goal.returns-in-None
returns-in-None c = rw c.new.ensures.items (no_node_pairs (resolved_view c.args.document.now) (id_of c.args.krate.now) (dependency_view c.args.declared.now) c.in-None.ensures)
