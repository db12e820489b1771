use Rattle.std.proofs.Common.{◌≡◌, ◌↔◌, ◌⊎◌, ◌&&◌, ◌||◌, not, true, IsTrue, sym, ap, ◌∙◌, subst}
use Rattle.krates_cm.specs.declared.dependency.DependencyKind.{DependencyKind}
use Rattle.krates_cm.specs.declared.dependency.DependencyKind.TheVariants as kinds
use Rattle.krates_units.specs.BuildSetting.{IsFirst, asks_dev, build_setting_view}
use Rattle.krates_build_tables.specs.Judgements.{passes_for}
use Rattle.krates_build_tables.proofs.SideLemmas.{counts_told}
use Rattle.krates_build_tables.proofs.sides.counts.Goals as goal

pub returns : goal.returns
returns c r ms e kind root passing =
    let s = build_setting_view c.args.setting.now in
    let part = subst (λ (k : DependencyKind). IsTrue c.takes_part-takes_part.result ↔ (k ≡ kinds.Development → IsTrue c.args.is_root × (IsFirst s.resolver ⊎ (asks_dev s.kinds ≡ true)))) (sym kind) c.takes_part-takes_part.ensures in
    let is = c.both_count.ensures ∙ ap (λ b. c.takes_part-takes_part.result && (not c.is_later.result || b)) (c.passes_for-passes.ensures ∙ ap (λ (k : DependencyKind). passes_for c.args.side k c.args.passing.now) (sym kind)) in
    rw is (counts_told r s c.args.side e ms c.args.passing.now c.args.is_root c.takes_part-takes_part.result c.is_later.result root part c.is_later.ensures passing)
