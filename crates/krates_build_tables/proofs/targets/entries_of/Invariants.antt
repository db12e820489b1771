use Rattle.std.proofs.Common.{map, take}
use Rattle.krates_cm.specs.Document.{target_view}
use Rattle.krates_units.specs.BuildSetting.{build_setting_view}
use Rattle.krates_build_tables.specs.Entries.{AreTargetEntries}
use Rattle.krates_build_tables.proofs.targets.entries_of.Given as goal

-- the entries are of the targets so far
abbrev pub invariant-loop-target : goal.invariant-loop-target
invariant-loop-target l = AreTargetEntries (build_setting_view l.setting) l.number (map target_view (take l.target-index l.targets)) l.entries.items
