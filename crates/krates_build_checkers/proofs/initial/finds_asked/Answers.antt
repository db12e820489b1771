use Rattle.std.proofs.Common.{true}
use Rattle.std.specs.List.{flat_map, range_with_len}
use Rattle.krates_build_facts.specs.InitialRows.{asked_for_machine}
use Rattle.krates_build_checkers.proofs.FoundRows.{counted_at, found_except, none_counted_more}
use Rattle.krates_build_checkers.proofs.initial.finds_asked.Goals as goal

pub returns-then-finds_for_machine : goal.returns-then-finds_for_machine
returns-then-finds_for_machine c =
    let x = c.args.target.now in
    found_except x.is_script true c.args.sought.now (flat_map (asked_for_machine x) (range_with_len 0 c.args.machines)) c.if-target.false
    (counted_at (asked_for_machine x) c.args.machines c.loop-number.number c.args.sought.now c.finds_for_machine.result c.loop-number-test.true c.if-finds_for_machine.true c.finds_for_machine.ensures)

pub loop-number-preserved : goal.loop-number-preserved
loop-number-preserved c = none_counted_more (asked_for_machine c.args.target.now) c.loop-number.number c.args.sought.now c.finds_for_machine.result c.if-finds_for_machine.false c.loop-number.invariant c.finds_for_machine.ensures
