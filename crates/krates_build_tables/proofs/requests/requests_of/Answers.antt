use Rattle.std.proofs.Common.{◌↔◌, IsTrue, List, String, map, string_bytes, sym, subst}
use Rattle.std.specs.declared.alloc.Global.{Global}
use Rattle.krates_questions.specs.Lookup.{resolved_view}
use Rattle.krates_rules.specs.Facts.{Id}
use Rattle.krates_rules.specs.Resolved.{id_of}
use Rattle.krates_units.specs.BuildSetting.{build_setting_view}
use Rattle.krates_build_tables.specs.References.{reference_view}
use Rattle.krates_build_tables.specs.RequestsFlags.{AreFlags, NoneSelected}
use Rattle.krates_build_tables.specs.Requests.{AreGiven}
use Rattle.krates_build_tables.specs.RequestsTaken.{AreReferencesOf}
use Rattle.krates_build_tables.specs.declared.reference.FeatureReference.{FeatureReference}
use Rattle.krates_build_tables.specs.declared.selection.CrateFlags.{CrateFlags}
use Rattle.krates_build_tables.proofs.Flagged.{none_selected}
use Rattle.krates_build_tables.proofs.GivenReferences.{are_given}
use Rattle.krates_build_tables.proofs.requests.requests_of.Goals as goal

pub requests_by-requires : goal.requests_by-requires
requests_by-requires c =
    let d = c.args.document.now in
    let r = resolved_view d in
    let s = build_setting_view c.args.setting.now in
    let ids : List Id = map id_of d.ids.now.table.ids.items in
    let flags = c.in_ok-flags.flags.items in
    let are : AreFlags r s ids flags = c.in_ok-flags.ensures in
    let given = c.in_ok-given.given.items in
    let read = subst (λ (ts : List (String Global)). AreReferencesOf (map string_bytes ts) (map reference_view given)) c.deref.ensures.value c.in_ok-given.ensures in
    let none = subst (λ (xs : List CrateFlags). IsTrue c.selects_no_member.result ↔ NoneSelected xs) c.deref-4.ensures.value c.selects_no_member.ensures in
    record {
      flags = subst (λ (xs : List CrateFlags). AreFlags r s ids xs) (sym c.deref-2.ensures.value) are;
      given = subst (λ (xs : List FeatureReference). AreGiven s xs) (sym c.deref-3.ensures.value) (are_given c.one_reference.ensures s given read);
      alike = c.asks_alike.ensures;
      none_selected = none_selected c.one_reading.ensures.once d c.agrees.ensures s flags are c.selects_no_member.result none;
    }
