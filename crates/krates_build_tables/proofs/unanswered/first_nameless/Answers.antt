use Rattle.std.proofs.Common.{String, arith, map, refl, string_bytes, sym, subst}
use Rattle.std.specs.declared.alloc.Global.{Global}
use Rattle.krates_rules.proofs.Seen.{each_seen, seen_more}
use Rattle.krates_units.specs.Answered.{NamesFeature}
use Rattle.krates_build_tables.specs.Unanswered.{IsFirstWithout, model_taking, setting_taking}
use Rattle.krates_build_tables.proofs.FirstWithout.{first_without}
use Rattle.krates_build_tables.proofs.unanswered.first_nameless.Goals as goal

pub loop-text-preserved : goal.loop-text-preserved
loop-text-preserved c =
    let names = NamesFeature (model_taking c.args.taking.now) (setting_taking c.args.taking.now) in
    seen_more (λ (text : String Global). names (string_bytes text)) c.args.texts.now c.loop-text.text-index c.text-item.result (omega arith) c.text-item.is c.loop-text.invariant
    (subst names c.as_str-name.ensures.value (c.names_feature.ensures.0 c.if-not-names_feature.false))

pub returns-then-not-names_feature : goal.returns-then-not-names_feature
returns-then-not-names_feature c =
    let names = NamesFeature (model_taking c.args.taking.now) (setting_taking c.args.taking.now) in
    subst (IsFirstWithout names (map string_bytes c.args.texts.now)) (sym c.as_str-name.ensures.value)
    (first_without string_bytes names c.args.texts.now c.loop-text.text-index c.text-item.result (omega arith) c.text-item.is c.loop-text.invariant
    (λ named. absurd (cc (c.names_feature.ensures.1 (subst names (sym c.as_str-name.ensures.value) named), c.if-not-names_feature.true))))

pub returns : goal.returns
returns c = each_seen string_bytes (NamesFeature (model_taking c.args.taking.now) (setting_taking c.args.taking.now)) c.args.texts.now c.args.texts.now c.loop-text.text-index refl (omega arith) c.loop-text.invariant
