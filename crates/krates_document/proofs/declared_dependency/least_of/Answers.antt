use Rattle.krates_document.proofs.LeastFitting.{all_gone, put_at, stays_at}
use Rattle.krates_document.proofs.declared_dependency.least_of.Goals.{then-is_lesser, else-is_lesser}
use Rattle.krates_document.proofs.declared_dependency.least_of.Goals as goal

pub loop-there-preserved : goal.loop-there-preserved
loop-there-preserved c =
    let x = c.args.wanted.now in
    let l = c.loop-there in
    elim c.if-is_lesser.branch [
      | then-is_lesser w ↦ rw w.least-is (put_at x c.args.places.now l.there-index _ l.least c.is_lesser.result c.loop-there-test.true c.is_lesser.ensures w.if-is_lesser.true l.invariant)
      | else-is_lesser w ↦ rw w.least-is (stays_at x c.args.places.now l.there-index _ l.least c.is_lesser.result c.loop-there-test.true c.is_lesser.ensures w.if-is_lesser.false l.invariant)
    ]

pub returns : goal.returns
returns c = all_gone c.args.wanted.now c.args.places.now c.loop-there.there-index c.loop-there.least c.loop-there-test.false c.loop-there.invariant
