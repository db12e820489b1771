use Rattle.std.proofs.Common.{map}
use Rattle.std.specs.List.{filter_map}
use Rattle.krates_queries.specs.Direct.{value_at}
use Rattle.krates_queries.proofs.FoundLemmas.{all_found, one_more}
use Rattle.krates_queries.proofs.queries.reached.krates_among.Goals as goal

pub loop-number-preserved : goal.loop-number-preserved
loop-number-preserved g c =
    let value = value_at c.args.nodes.now in
    one_more value c.args.numbers.now c.loop-number.number-index c.number-item.result
    (map (λ krate. krate.now) c.loop-number.krates.items) (map (λ krate. krate.now) c.push_krate.new.krates.items) (filter_map value c.args.numbers.now)
    c.loop-number-test.true c.number-item.is c.loop-number.invariant c.in_ok-push_krate.ensures

pub returns : goal.returns
returns g c =
    let value = value_at c.args.nodes.now in
    all_found value c.args.numbers.now c.loop-number.number-index (map (λ krate. krate.now) c.loop-number.krates.items) (filter_map value c.args.numbers.now)
    c.loop-number-test.false c.loop-number.invariant
