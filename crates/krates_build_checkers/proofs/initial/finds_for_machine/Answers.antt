use Rattle.krates_build_facts.specs.InitialRows.{asked_in}
use Rattle.krates_units.specs.declared.kinds.Mode.TheVariants as modes
use Rattle.krates_build_checkers.proofs.FoundRows.{found_second}
use Rattle.krates_build_checkers.proofs.initial.finds_for_machine.Goals as goal

pub returns-else-finds_in_mode : goal.returns-else-finds_in_mode
returns-else-finds_in_mode c =
    let x = c.args.target.now in
    found_second c.finds_in_mode.result c.finds_in_mode-else-finds_in_mode.result c.args.sought.now (asked_in x.is_asked modes.Build x c.args.number) (asked_in x.is_asked_with_tests modes.Test x c.args.number)
    c.if-finds_in_mode.false c.finds_in_mode.ensures c.finds_in_mode-else-finds_in_mode.ensures
