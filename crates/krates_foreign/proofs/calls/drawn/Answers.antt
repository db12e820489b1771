use Rattle.std.proofs.Common.{◌≡◌, ◌++◌, rules, string_bytes}
use Rattle.std.proofs.lemmas.Result.{err_from_is_err_and}
use Rattle.krates_cli.proofs.ListingLemmas.{built_as_given, refused_as_given}
use Rattle.krates_foreign.proofs.CallLemmas.{unbuilt}
use Rattle.krates_foreign.proofs.DrawnLinesLemmas.{draws}
use Rattle.krates_foreign.specs.StoredLines.{stored_edge_lines, stored_node_lines}
use Rattle.krates_foreign.proofs.calls.drawn.Goals as goal

pub returns-in_err-krates-clause-refused : goal.returns-in_err-krates-clause-refused
returns-in_err-krates-clause-refused c =
    let m = c.in_ok-metadata.metadata in
    let b = c.under-builder.result in
    let cause = c.in_err-krates.field-0.0 in
    let p = err_from_is_err_and c.from_residual-in_err-krates.result c.from_residual-in_err-krates.ensures.1 in
    let unindexed = rw c.under-builder.ensures.index at c.in_err-krates.ensures.refused in
    let reason = rw c.under-builder.ensures.setting at (refused_as_given _ m b.setting cause unindexed) in
    rw p.1 (unbuilt c.args.setting c.args.document.now m cause p.0 c.in_ok-metadata.ensures.read reason p.2)

pub returns-clause-drawn : goal.returns-clause-drawn
returns-clause-drawn c =
    let m = c.in_ok-metadata.metadata in
    let b = c.under-builder.result in
    let kept = c.in_ok-krates.krates in
    let lines = string_bytes c.in_ok-format.field-0 in
    let built = built_as_given _ b.index b.setting c.args.setting m _ _ _ kept _ _ c.under-builder.ensures.index c.under-builder.ensures.setting c.in_ok-krates.ensures.built in
    let written : lines ≡ stored_node_lines kept.graph.nodes ++ stored_edge_lines kept.graph.edges = search rules in
    (m, c.in_ok-metadata.ensures.read, draws _ c.args.setting m kept _ _ lines c.in_ok-krates.ensures.admitted built written)
