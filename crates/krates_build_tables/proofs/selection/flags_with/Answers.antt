use Rattle.std.proofs.Common.{◌≡◌, ◌+◌, List, [], ◌∷◌, ◌++◌, map, take, arith, sym, subst, ◌∙◌}
use Rattle.std.proofs.lemmas.List.{take_all}
use Rattle.krates_ids.specs.Identity.{Identity}
use Rattle.krates_ids.proofs.CorrectionLemmas.{taken_more}
use Rattle.krates_questions.specs.Lookup.{resolved_view}
use Rattle.krates_rules.specs.Resolved.{id_of}
use Rattle.krates_units.specs.BuildSetting.{build_setting_view}
use Rattle.krates_build_tables.specs.RequestsFlags.{AreFlags}
use Rattle.krates_build_tables.specs.declared.selection.CrateFlags.{CrateFlags}
use Rattle.krates_build_tables.proofs.Flagged.{flags_none, flags_more}
use Rattle.krates_build_tables.proofs.selection.flags_with.Goals as goal

pub loop-id-init : goal.loop-id-init
loop-id-init c =
    let r = resolved_view c.args.document.now in
    let s = build_setting_view c.args.setting.now in
    subst (λ (flags : List CrateFlags). AreFlags r s [] flags) (sym c.in_ok-flags.ensures.items) (flags_none r s)

pub loop-id-preserved : goal.loop-id-preserved
loop-id-preserved c =
    let l = c.loop-id in
    let r = resolved_view c.args.document.now in
    let s = build_setting_view c.args.setting.now in
    let ids = c.crate_ids-ids.result.now in
    let more : map id_of (take (l.id-index + 1) ids) ≡ map id_of (take l.id-index ids) ++ id_of c.id-item.result ∷ [] = taken_more id_of ids l.id-index c.id-item.result (omega arith) c.id-item.is in
    rw (more, c.in_ok-push.ensures.items) (flags_more r s (map id_of (take l.id-index ids)) l.flags.items (id_of c.id-item.result) c.flags_at.result c.flags_at.ensures.says c.flags_at.ensures.id l.invariant)

pub returns : goal.returns
returns c =
    let r = resolved_view c.args.document.now in
    let s = build_setting_view c.args.setting.now in
    let all = take_all c.loop-id.id-index c.crate_ids-ids.result.now (omega arith) ∙ c.crate_ids-ids.ensures in
    subst (λ (ids : List Identity). AreFlags r s (map id_of ids) c.loop-id.flags.items) all c.loop-id.invariant
