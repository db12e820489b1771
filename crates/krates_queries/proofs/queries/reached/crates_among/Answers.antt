use Rattle.std.proofs.Common.{map}
use Rattle.std.specs.List.{filter_map}
use Rattle.krates_queries.specs.KrateNodes.{match_at, match_view}
use Rattle.krates_queries.proofs.FoundLemmas.{all_found, one_more}
use Rattle.krates_queries.proofs.queries.reached.crates_among.Goals as goal

pub loop-number-preserved : goal.loop-number-preserved
loop-number-preserved g c =
    let crate = match_at c.args.nodes.now in
    one_more crate c.args.numbers.now c.loop-number.number-index c.number-item.result
    (map match_view c.loop-number.found.items) (map match_view c.push_crate.new.found.items) (filter_map crate c.args.numbers.now)
    c.loop-number-test.true c.number-item.is c.loop-number.invariant c.in_ok-push_crate.ensures

pub returns : goal.returns
returns g c =
    let crate = match_at c.args.nodes.now in
    all_found crate c.args.numbers.now c.loop-number.number-index (map match_view c.loop-number.found.items) (filter_map crate c.args.numbers.now)
    c.loop-number-test.false c.loop-number.invariant
