-- A row of the program's table, as a description.
use Rattle.krates_text.specs.TargetTable.{Description, row}
use Rattle.krates_text.specs.declared.target.Row.{Row}

abbrev pub described : Row → Description
described r = row r.triple.now r.arch.now r.os.now r.env.now r.vendor.now r.family.now r.pointer_width.now r.panic.now
