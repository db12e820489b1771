use Rattle.std.proofs.Common.{Bor}
use Rattle.krates_cm.specs.Document.{Text}
use Rattle.krates_build_tables.specs.References.{reference_view}
use Rattle.krates_build_facts.specs.Rows.{linked_implied}
use Rattle.krates_build_checkers.proofs.FoundRows.{found_get, none_get}
use Rattle.krates_build_checkers.proofs.linking.finds_implied.Goals as goal

pub returns-then-is_if : goal.returns-then-is_if
returns-then-is_if c =
    let rows = λ (name : Bor Text). linked_implied c.args.krate c.args.meeting (reference_view c.args.reference) name.now in
    found_get rows c.args.names.now c.loop-name.name-index _ c.args.sought.now c.is_if.result c.loop-name-test.true c.if-is_if.true (rw c.turns_on.ensures at c.is_if.ensures)

pub loop-name-preserved : goal.loop-name-preserved
loop-name-preserved c =
    let rows = λ (name : Bor Text). linked_implied c.args.krate c.args.meeting (reference_view c.args.reference) name.now in
    none_get rows c.args.names.now c.loop-name.name-index _ c.args.sought.now c.is_if.result c.loop-name-test.true c.if-is_if.false c.loop-name.invariant (rw c.turns_on.ensures at c.is_if.ensures)
