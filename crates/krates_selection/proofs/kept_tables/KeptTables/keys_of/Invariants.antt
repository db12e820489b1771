use Rattle.std.proofs.Common.{take}
use Rattle.std.specs.List.{AllZip}
use Rattle.krates_selection.specs.KeptTables.{IsKeyOf, numbered_facts}
use Rattle.krates_selection.proofs.kept_tables.KeptTables.keys_of.Given as goal

-- each fact so far has its key
abbrev pub invariant-loop-step : goal.invariant-loop-step
invariant-loop-step l = AllZip (IsKeyOf l.self) (numbered_facts (take l.step-index l.steps)) l.keys.items
