use Rattle.std.proofs.Common.{◌↔◌, IsTrue, List, map, sym, subst}
use Rattle.krates_questions.specs.Lookup.{resolved_view}
use Rattle.krates_rules.specs.Facts.{Id}
use Rattle.krates_rules.specs.Resolved.{id_of}
use Rattle.krates_units.specs.BuildSetting.{build_setting_view}
use Rattle.krates_build_tables.specs.RequestsFlags.{AreFlags, NoneSelected}
use Rattle.krates_build_tables.specs.declared.selection.CrateFlags.{CrateFlags}
use Rattle.krates_build_tables.proofs.Flagged.{none_selected}
use Rattle.krates_build_tables.proofs.unanswered.first_unanswered.Goals as goal

pub unanswered_by-requires-clause-taking : goal.unanswered_by-requires-clause-taking
unanswered_by-requires-clause-taking c =
    let d = c.args.document.now in
    let r = resolved_view d in
    let s = build_setting_view c.args.setting.now in
    let ids : List Id = map id_of d.ids.now.table.ids.items in
    let flags = c.in_ok-flags.flags.items in
    let are : AreFlags r s ids flags = c.in_ok-flags.ensures in
    let none = subst (λ (xs : List CrateFlags). IsTrue c.selects_no_member.result ↔ NoneSelected xs) c.deref-2.ensures.value c.selects_no_member.ensures in
    record {
      flags = subst (λ (xs : List CrateFlags). AreFlags r s ids xs) (sym c.deref.ensures.value) are;
      alike = c.asks_alike.ensures;
      none_selected = none_selected c.one_reading.ensures.once d c.agrees.ensures s flags are c.selects_no_member.result none;
    }
