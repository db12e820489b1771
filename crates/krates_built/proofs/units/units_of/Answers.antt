use Rattle.std.proofs.Common.{map}
use Rattle.krates_questions.specs.Lookup.{resolved_view}
use Rattle.krates_rules.specs.Resolved.{id_of}
use Rattle.krates_units.specs.BuildSetting.{build_setting_view}
use Rattle.krates_build_tables.specs.Judgements.{lent_machines}
use Rattle.krates_built.proofs.Refused.{complete_of, refused, settled_of}
use Rattle.krates_built.proofs.units.units_of.Goals as goal

pub returns-in-Some-clause-refused : goal.returns-in-Some-clause-refused
returns-in-Some-clause-refused c =
    let t = c.in_ok-listed.listed.derived in
    refused c.meaning.ensures.exact c.meaning.ensures.complete (resolved_view c.args.document.now) (build_setting_view c.args.setting.now) (map id_of c.args.document.now.ids.now.table.ids.items) (lent_machines t.machines.items) t c.in_ok-listed.ensures.tables
    c.in_ok-refuse_unanswered.ensures.answered c.in-Some.refusal c.in-Some.ensures

pub returns-clause-complete : goal.returns-clause-complete
returns-clause-complete c =
    let t = c.in_ok-listed.listed.derived in
    complete_of c.meaning.ensures.exact c.meaning.ensures.complete (resolved_view c.args.document.now) (build_setting_view c.args.setting.now) (map id_of c.args.document.now.ids.now.table.ids.items) (lent_machines t.machines.items) t c.in_ok-listed.ensures.tables
    c.in-None.ensures.0

pub returns-clause-settled : goal.returns-clause-settled
returns-clause-settled c =
    let t = c.in_ok-listed.listed.derived in
    settled_of c.meaning.ensures.exact c.meaning.ensures.complete (resolved_view c.args.document.now) (build_setting_view c.args.setting.now) (map id_of c.args.document.now.ids.now.table.ids.items) (lent_machines t.machines.items) t c.in_ok-listed.ensures.tables
    c.in-None.ensures.1
