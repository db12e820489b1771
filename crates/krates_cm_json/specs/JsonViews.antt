-- The data that a value represents.
use Rattle.json.specs.Value.{value_view}
use Rattle.serde_json.specs.Data.{Data}
use Rattle.krates_cm_json.specs.Readable.{data_in}
use Rattle.krates_cm_json.specs.declared.borrowed.Borrowed.{Borrowed}
use Rattle.krates_cm_json.specs.declared.parsed.Parsed.{Parsed}

abbrev pub borrowed_data : Borrowed → Data
borrowed_data j = data_in (value_view j.tree.now)

abbrev pub parsed_data : Parsed → Data
parsed_data p = data_in (value_view p.tree)
