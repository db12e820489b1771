use Rattle.std.proofs.Common.{map, ap, ◌∙◌, arith}
use Rattle.std.proofs.lemmas.List.{map-append}
use Rattle.krates_cm.specs.Document.{dependency_view}
use Rattle.krates_questions.specs.Lookup.{resolved_view}
use Rattle.krates_rules.specs.Resolved.{id_of}
use Rattle.krates_build_tables.specs.Pairs.{PairsFor, pair_view}
use Rattle.krates_build_tables.proofs.Listing.{lists_none, lists_next, lists_all}
use Rattle.krates_build_tables.proofs.PairLemmas.{resolves_told}
use Rattle.krates_build_tables.proofs.pairs.pairs_of.Goals as goal

pub loop-declared-init : goal.loop-declared-init
loop-declared-init c = rw c.new-pairs.ensures.items (lists_none (PairsFor (resolved_view c.args.document.now) (id_of c.args.krate.now)))

pub loop-declared-preserved : goal.loop-declared-preserved
loop-declared-preserved c =
    let l = c.loop-declared in
    lists_next (PairsFor (resolved_view c.args.document.now) (id_of c.args.krate.now)) dependency_view c.declared_by-declared-items.result.now l.declared-index c.declared-item.result (map pair_view l.pairs.items)
    (map pair_view c.in_ok-more.more.items) _ (omega arith) c.declared-item.is c.in_ok-more.ensures (ap (map pair_view) c.in_ok-append.ensures ∙ map-append pair_view l.pairs.items c.in_ok-more.more.items) l.invariant

pub returns : goal.returns
returns c =
    let r = resolved_view c.args.document.now in
    let i = id_of c.args.krate.now in
    let ds = c.declared_by-declared-items.result.now in
    let out = map pair_view c.loop-declared.pairs.items in
    resolves_told r i (map dependency_view ds) out c.declared_by-declared-items.ensures (lists_all (PairsFor r i) dependency_view ds c.loop-declared.declared-index out (omega arith) c.loop-declared.invariant)
