use Rattle.std.proofs.Common.{Contains, take}
use Rattle.krates_queries.specs.Reached.{Grows}
use Rattle.krates_queries.proofs.queries.reached.put_all.Given as goal

abbrev pub invariant-loop-number : goal.invariant-loop-number
invariant-loop-number l = Grows (Contains (take l.number-index l.numbers)) l.fn.agenda l.agenda
