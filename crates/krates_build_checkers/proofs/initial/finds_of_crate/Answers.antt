use Rattle.std.proofs.Common.{[], if◌then◌else◌}
use Rattle.std.specs.List.{flat_map}
use Rattle.krates_build_facts.specs.InitialRows.{asked_rows, root_rows}
use Rattle.krates_build_checkers.proofs.FoundRows.{found_before, found_second}
use Rattle.krates_build_checkers.proofs.initial.finds_of_crate.Goals as goal

pub returns-then-finds_of_root : goal.returns-then-finds_of_root
returns-then-finds_of_root c =
    let e = c.args.entry.now in
    found_before c.finds_of_root.result c.args.sought.now (root_rows e) (if e.is_selected then flat_map (asked_rows c.args.machines) e.targets.items else []) c.if-finds_of_root.true c.finds_of_root.ensures

pub returns-else-finds_of_root : goal.returns-else-finds_of_root
returns-else-finds_of_root c =
    let e = c.args.entry.now in
    found_second c.finds_of_root.result c.finds_of_selected.result c.args.sought.now (root_rows e) (if e.is_selected then flat_map (asked_rows c.args.machines) e.targets.items else []) c.if-finds_of_root.false c.finds_of_root.ensures c.finds_of_selected.ensures
