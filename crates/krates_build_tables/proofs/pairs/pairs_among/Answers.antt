use Rattle.std.proofs.Common.{map, sym, ap, ◌∙◌, arith}
use Rattle.std.proofs.lemmas.List.{map-append}
use Rattle.krates_cm.specs.Document.{dependency_view}
use Rattle.krates_questions.specs.Lookup.{resolved_view}
use Rattle.krates_build_tables.specs.Pairs.{pair_view}
use Rattle.krates_build_tables.proofs.Listing.{below_zero, below_next}
use Rattle.krates_questions.proofs.NodeParts.{deps_long, entry_here, own_long}
use Rattle.krates_build_tables.proofs.PairLemmas.{GivesAt, entry_gives, node_told}
use Rattle.krates_build_tables.proofs.pairs.pairs_among.Goals as goal

pub entry_at-requires-clause-lengths : goal.entry_at-requires-clause-lengths
entry_at-requires-clause-lengths c = sym (deps_long (resolved_view c.args.document.now) c.args.parts.now.place.index c.args.parts.now c.requires)

pub entry_at-requires-clause-versions : goal.entry_at-requires-clause-versions
entry_at-requires-clause-versions c = own_long (resolved_view c.args.document.now) c.args.parts.now.place.index c.args.parts.now c.requires

pub pairs_at-requires : goal.pairs_at-requires
pairs_at-requires c = entry_here (resolved_view c.args.document.now) c.args.parts.now.place.index c.args.parts.now c.loop-index.index c.entry_at.result c.requires c.entry_at.ensures

pub loop-index-init : goal.loop-index-init
loop-index-init c = rw c.new-pairs.ensures.items (below_zero (GivesAt (resolved_view c.args.document.now) c.args.parts.now (dependency_view c.args.declared.now)))

pub loop-index-preserved : goal.loop-index-preserved
loop-index-preserved c =
    let l = c.loop-index in
    let r = resolved_view c.args.document.now in
    let d = dependency_view c.args.declared.now in
    let more = map pair_view c.in_ok-more.more.items in
    below_next (GivesAt r c.args.parts.now d) l.index (map pair_view l.pairs.items) more _ (entry_gives r c.args.parts.now d l.index c.entry_at.result more c.entry_at.ensures c.in_ok-more.ensures)
    (ap (map pair_view) c.in_ok-append.ensures ∙ map-append pair_view l.pairs.items c.in_ok-more.more.items) l.invariant

pub returns : goal.returns
returns c b =
    let r = resolved_view c.args.document.now in
    let d = dependency_view c.args.declared.now in
    let both = node_told c.one_reading.ensures.once r c.args.parts.now.place.index c.args.parts.now d c.loop-index.index b c.agrees.ensures.distinct c.requires (omega arith) in
    (λ h. (c.loop-index.invariant b).0 (both.0 h), λ h. both.1 ((c.loop-index.invariant b).1 h))
