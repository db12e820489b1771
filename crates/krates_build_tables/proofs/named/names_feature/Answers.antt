use Rattle.std.proofs.Common.{◌↔◌, Bool, IsTrue, sym, subst}
use Rattle.krates_units.specs.Answered.{NamesFeature}
use Rattle.krates_build_tables.specs.References.{reference_view}
use Rattle.krates_build_tables.specs.Unanswered.{model_taking, setting_taking}
use Rattle.krates_build_tables.proofs.TakingCrates.{feature_named, feature_not_named}
use Rattle.krates_build_tables.proofs.named.names_feature.Goals as goal

pub returns-then-is_taken : goal.returns-then-is_taken
returns-then-is_taken c =
    let t = c.args.taking.now in
    feature_named c.one_reference.ensures (model_taking t) (setting_taking t) c.args.text.now (reference_view c.reference_of-given.result) c.reference_of-given.ensures (c.is_taken.ensures.0 c.if-is_taken.true) c.is_lacking.result c.is_lacking.ensures

pub returns-else-is_taken : goal.returns-else-is_taken
returns-else-is_taken c =
    let t = c.args.taking.now in
    let r = model_taking t in
    let s = setting_taking t in
    let text = c.args.text.now in
    subst (λ (b : Bool). IsTrue b ↔ NamesFeature r s text) (sym c.if-is_taken.false)
    (feature_not_named c.one_reference.ensures r s text (reference_view c.reference_of-given.result) c.reference_of-given.ensures (λ taken. absurd (cc (c.is_taken.ensures.1 taken, c.if-is_taken.false))))
