use Rattle.std.proofs.Common.{arith}
use Rattle.krates_verdict.proofs.CountedCrates.{crates_all, crates_more, crates_none}
use Rattle.krates_verdict.proofs.crates_of_facts.crates_of.Goals as goal

pub loop-fact-init : goal.loop-fact-init
loop-fact-init c = crates_none c.new-krates.result c.new-krates.ensures.empty

pub loop-fact-preserved : goal.loop-fact-preserved
loop-fact-preserved c =
    let l = c.loop-fact in
    crates_more c.put_crate.new.krates c.args.facts.now l.fact-index c.fact-item.result c.loop-fact-test.true c.fact-item.is (c.in_ok-put_crate.ensures _ l.invariant)

pub returns : goal.returns
returns c = crates_all c.loop-fact.krates c.args.facts.now c.loop-fact.fact-index (omega arith) c.loop-fact.invariant
