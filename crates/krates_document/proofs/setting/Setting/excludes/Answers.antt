use Rattle.std.proofs.Common.{sym, subst, arith}
use Rattle.krates_cm.specs.Document.{package_view}
use Rattle.krates_ids.specs.PackageSpecification.{SpecFits, spec_view}
use Rattle.krates_rules.specs.Setting.{SettingModel, IsExcluded}
use Rattle.krates_rules.proofs.Seen.{each_seen}
use Rattle.krates_document.proofs.setting.Setting.excludes.Goals as goal

pub returns : goal.returns
returns c =
    let pkg = package_view c.args.pkg.now in (
      λ t. absurd cc,
      λ e. absurd (let h = subst (λ (s : SettingModel). IsExcluded s pkg) (sym c.self.view_is) e in
          each_seen spec_view (λ m. SpecFits m pkg → ⊥) c.deref-spec-items.result.now c.self.inside.exclusions.items c.loop-spec.spec-index c.deref-spec-items.ensures.value (omega arith) c.loop-spec.invariant h.spec h.among h.fits),
    )
