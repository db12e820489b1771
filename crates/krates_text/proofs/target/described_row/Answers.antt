use Rattle.krates_text.proofs.TargetTable.{row_found}
use Rattle.krates_text.proofs.target.described_row.Goals as goal

pub returns : goal.returns
returns c = row_found c.args.rows.now c.args.triple.now c.find_row.result c.find_row.ensures
