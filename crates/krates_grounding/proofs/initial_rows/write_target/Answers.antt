use Rattle.krates_build_facts.specs.InitialRows.{asked_for_machine}
use Rattle.krates_grounding.proofs.WrittenRules.{counted_more}
use Rattle.krates_grounding.proofs.initial_rows.write_target.Goals as goal

pub loop-number-preserved : goal.loop-number-preserved
loop-number-preserved c = counted_more (asked_for_machine c.args.target.now) c.loop-number.number _ _ _ c.loop-number.invariant c.in_ok-write_for_machine.ensures
