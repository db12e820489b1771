use Rattle.std.proofs.Common.{◌≡◌, ◌↔◌, Option, Some, option_map, subst}
use Rattle.krates_text.specs.FeatureReference.{Reference}
use Rattle.krates_units.specs.Answered.{TakesAsRoot}
use Rattle.krates_build_tables.specs.References.{reference_view}
use Rattle.krates_build_tables.specs.RequestsFlags.{flagged}
use Rattle.krates_build_tables.specs.Unanswered.{model_taking, setting_taking}
use Rattle.krates_build_tables.specs.declared.reference.FeatureReference.{FeatureReference}
use Rattle.krates_build_tables.proofs.TakingCrates.{lacking_told, nothing_lacking}
use Rattle.krates_build_tables.proofs.named.takes_lacking.Goals as goal

pub returns-in-Some : goal.returns-in-Some
returns-in-Some c =
    let t = c.args.taking.now in
    let r = model_taking t in
    let s = setting_taking t in
    let v = reference_view c.args.given.now in
    let i = flagged c.args.krate.now in
    let tells = subst (λ (o : Option FeatureReference). (w : Reference) → TakesAsRoot r s i v w ↔ (option_map reference_view o ≡ Some w)) c.in-Some.is c.taken_by.ensures in
    lacking_told r s i v c.in-Some.reference c.has_named.result tells c.has_named.ensures

pub returns-in-None : goal.returns-in-None
returns-in-None c =
    let t = c.args.taking.now in
    let r = model_taking t in
    let s = setting_taking t in
    let v = reference_view c.args.given.now in
    let i = flagged c.args.krate.now in
    let tells = subst (λ (o : Option FeatureReference). (w : Reference) → TakesAsRoot r s i v w ↔ (option_map reference_view o ≡ Some w)) c.in-None.is c.taken_by.ensures in
    nothing_lacking r s i v tells
