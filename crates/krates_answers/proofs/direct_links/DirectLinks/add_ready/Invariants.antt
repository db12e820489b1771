use Rattle.std.proofs.Common.{take}
use Rattle.krates_answers.specs.Order.{AreToldReady}
use Rattle.krates_answers.proofs.direct_links.DirectLinks.add_ready.Given as goal

-- those of the numbers so far are added
abbrev pub invariant-loop-number : goal.invariant-loop-number
invariant-loop-number l = AreToldReady l.self (take l.number-index l.numbers) l.marks l.fn.ready l.ready
