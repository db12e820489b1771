use Rattle.std.proofs.Common.{arith}
use Rattle.krates_derive.proofs.FactSetLemmas.{keys_all, keys_more, keys_none}
use Rattle.krates_derive.proofs.fact_set.keys_of.Goals as goal

pub loop-fact-init : goal.loop-fact-init
loop-fact-init c = keys_none c.new-keys.result c.new-keys.ensures.empty

pub loop-fact-preserved : goal.loop-fact-preserved
loop-fact-preserved c =
    let l = c.loop-fact in
    keys_more c.comparison.ensures.order l.keys c.insert.new.self c.args.facts.now l.fact-index c.fact-item.result c.of.result c.of.ensures c.loop-fact-test.true c.fact-item.is c.in_ok-insert.ensures.updates.0 l.invariant

pub returns : goal.returns
returns c = keys_all c.loop-fact.keys c.args.facts.now c.loop-fact.fact-index (omega arith) c.loop-fact.invariant
