use Rattle.std.proofs.Common.{map}
use Rattle.std.proofs.lemmas.Result.{IfOk-weaker}
use Rattle.krates_cm.specs.Document.{target_view}
use Rattle.krates_questions.specs.Lookup.{resolved_view}
use Rattle.krates_rules.specs.Resolved.{id_of}
use Rattle.krates_units.specs.BuildSetting.{build_setting_view}
use Rattle.krates_build_tables.proofs.Entries.{entries_targets}
use Rattle.krates_build_tables.proofs.targets.target_entries.Goals as goal

pub returns : goal.returns
returns c =
    IfOk-weaker c.entries_of.result _ _ (λ entries are. entries_targets (resolved_view c.args.document.now) (build_setting_view c.args.setting.now) c.args.number (id_of c.args.krate.now)
    (map target_view c.targets_of.result.now) entries.items c.targets_of.ensures.has c.targets_of.ensures.whole are) c.entries_of.ensures
