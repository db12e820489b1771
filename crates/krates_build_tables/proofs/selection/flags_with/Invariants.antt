use Rattle.std.proofs.Common.{map, take}
use Rattle.krates_questions.specs.Lookup.{resolved_view}
use Rattle.krates_rules.specs.Resolved.{id_of}
use Rattle.krates_units.specs.BuildSetting.{build_setting_view}
use Rattle.krates_build_tables.specs.RequestsFlags.{AreFlags}
use Rattle.krates_build_tables.proofs.selection.flags_with.Given as goal

-- the flags of the crates so far
abbrev pub invariant-loop-id : goal.invariant-loop-id
invariant-loop-id l = AreFlags (resolved_view l.document) (build_setting_view l.setting) (map id_of (take l.id-index l.ids)) l.flags.items
