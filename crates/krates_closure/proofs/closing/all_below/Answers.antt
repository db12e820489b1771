use Rattle.std.proofs.Common.{arith, length-append, ◌∷◌, []}
use Rattle.krates_closure.proofs.ClosingLemmas.{below_push, all_push}
use Rattle.krates_closure.proofs.closing.all_below.Goals as goal

pub loop-number-preserved : goal.loop-number-preserved
loop-number-preserved c =
    let numbers = c.loop-number.numbers.items in
    let k = c.loop-number.number in
    rw (c.in_ok-push.ensures.items, c.new.ensures)
    (record {
      length = omega (arith, length-append numbers (k ∷ []), c.loop-number.invariant.length);
      below = below_push numbers k c.loop-number.invariant.below;
      all = all_push numbers k c.loop-number.invariant.all;
    })

pub returns-clause-below : goal.returns-clause-below
returns-clause-below c = λ n m. omega (arith, c.loop-number.invariant.below n m)
