-- The program's targets, as they are asked.
use Rattle.std.specs.Prelude.{map, string_bytes, String, Vec}
use Rattle.std.specs.declared.alloc.Global.{Global}
use Rattle.krates_text.specs.declared.target.Target.{Target}
use Rattle.krates_text.specs.TargetTable.{target_of}
use Rattle.krates_text.specs.Passing.{Asked}

-- a target with its features, as clauses see it
abbrev pub asked_of : Target × Vec (String Global) Global → Asked
asked_of pair = record { target = target_of pair.0; features = map string_bytes pair.1.items }
