use Rattle.krates_questions.specs.Lookup.{resolved_view}
use Rattle.krates_rules.specs.Resolved.{id_of}
use Rattle.krates_units.specs.BuildSetting.{build_setting_view}
use Rattle.krates_build_tables.proofs.SideLemmas.{host_start}
use Rattle.krates_build_tables.proofs.targets.starts_on_host.Goals as goal

pub returns-then-is_later : goal.returns-then-is_later
returns-then-is_later c = host_start (resolved_view c.args.document.now) (build_setting_view c.args.setting.now) (id_of c.args.krate.now) c.has_macro.result (c.is_later.ensures.0 c.if-is_later.true) c.has_macro.ensures
