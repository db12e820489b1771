use Rattle.krates_build_checkers.proofs.RowsBegun.{row_at_start, row_by_premise}
use Rattle.krates_build_checkers.proofs.rows.is_row.Goals as goal

pub returns-then-finds_begun_by_some : goal.returns-then-finds_begun_by_some
returns-then-finds_begun_by_some c = row_by_premise c.args.tables.now c.args.step c.finds_begun_by_some.result c.if-finds_begun_by_some.true (rw c.deref.ensures.value at c.finds_begun_by_some.ensures)

pub returns-else-finds_begun : goal.returns-else-finds_begun
returns-else-finds_begun c = row_at_start c.args.tables.now c.args.step c.finds_begun_by_some.result c.finds_begun.result c.finds_initial.result c.if-finds_begun_by_some.false c.if-finds_begun.false
    (rw c.deref.ensures.value at c.finds_begun_by_some.ensures) c.finds_begun.ensures c.finds_initial.ensures
