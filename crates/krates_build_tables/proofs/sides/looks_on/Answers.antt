use Rattle.std.proofs.Common.{◌≡◌, ◌↔◌, IsTrue, sym, subst}
use Rattle.krates_cm.specs.declared.dependency.DependencyKind.{DependencyKind}
use Rattle.krates_cm.specs.declared.dependency.DependencyKind.TheVariants as kinds
use Rattle.krates_questions.specs.Lookup.{resolved_view}
use Rattle.krates_rules.specs.Facts.{Id}
use Rattle.krates_units.specs.BuildSetting.{build_setting_view}
use Rattle.krates_units.specs.BuildTargets.{HasMacro}
use Rattle.krates_build_tables.proofs.SideLemmas.{looks_told}
use Rattle.krates_build_tables.proofs.sides.looks_on.Goals as goal

pub returns : goal.returns
returns c e m kind child =
    let r = resolved_view c.args.document.now in
    rw c.side_for.ensures (looks_told r (build_setting_view c.args.setting.now) e m c.is_later.result c.is_build.result c.has_macro.result c.is_later.ensures
    (subst (λ (k : DependencyKind). IsTrue c.is_build.result ↔ (k ≡ kinds.Build)) (sym kind) c.is_build.ensures) (subst (λ (i : Id). IsTrue c.has_macro.result ↔ HasMacro r i) (sym child) c.has_macro.ensures))
