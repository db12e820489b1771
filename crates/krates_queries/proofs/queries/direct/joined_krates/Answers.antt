use Rattle.std.proofs.Common.{map}
use Rattle.krates_queries.specs.Direct.{first_edge, joined_all, joined_by, value_at}
use Rattle.krates_queries.proofs.FoundLemmas.{all_found, one_more}
use Rattle.krates_queries.proofs.queries.direct.joined_krates.Goals as goal

pub loop-number-preserved : goal.loop-number-preserved
loop-number-preserved g c =
    let value = value_at c.args.nodes.now in
    let edge = first_edge c.args.neighbours.now in
    one_more (λ n. joined_by n (value n) (edge n)) c.args.numbers.now c.loop-number.number-index c.number-item.result
    (map g.J.FromJoined.joined_view c.loop-number.found.items) (map g.J.FromJoined.joined_view c.push_joined.new.found.items) (joined_all value edge c.args.numbers.now)
    c.loop-number-test.true c.number-item.is c.loop-number.invariant c.in_ok-push_joined.ensures

pub returns : goal.returns
returns g c =
    let value = value_at c.args.nodes.now in
    let edge = first_edge c.args.neighbours.now in
    all_found (λ n. joined_by n (value n) (edge n)) c.args.numbers.now c.loop-number.number-index (map g.J.FromJoined.joined_view c.loop-number.found.items) (joined_all value edge c.args.numbers.now)
    c.loop-number-test.false c.loop-number.invariant
