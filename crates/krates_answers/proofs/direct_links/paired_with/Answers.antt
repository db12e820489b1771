use Rattle.krates_answers.proofs.PairedNumbers.{paired_all, paired_more}
use Rattle.krates_answers.proofs.direct_links.paired_with.Goals as goal

pub loop-pair-preserved : goal.loop-pair-preserved
loop-pair-preserved c =
    paired_more c.args.count c.args.number c.args.pairs.now c.loop-pair.pair-index _ _ _ c.loop-pair-test.true c.loop-pair.invariant c.in_ok-push_if_paired.ensures

pub returns : goal.returns
returns c =
    paired_all c.args.count c.args.number c.args.pairs.now c.loop-pair.pair-index c.loop-pair.numbers.items c.in_ok-all.all.items c.loop-pair-test.false c.loop-pair.invariant
    c.in_ok-all.ensures.ascending c.in_ok-all.ensures.same
