use Rattle.std.proofs.Common.{sym, arith}
use Rattle.krates_grounding.proofs.steps.steps_of.Goals as goal

pub step_of-requires-clause-within : goal.step_of-requires-clause-within
step_of-requires-clause-within c = c.requires.within c.number-item.result (c.loop-number.number-index, omega arith, sym c.number-item.is)
