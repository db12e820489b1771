use Rattle.krates_host.specs.Running.{HasLimit}
use Rattle.krates_host.proofs.printed.Printed.read_both.Given as goal

abbrev pub invariant-loop : goal.invariant-loop
invariant-loop l = (max : _) → HasLimit max l.fn.self → HasLimit max l.self
