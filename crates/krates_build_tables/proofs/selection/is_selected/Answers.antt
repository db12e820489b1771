use Rattle.std.proofs.Common.{◌↔◌, IsTrue, List, ap, map, subst}
use Rattle.krates_cm.specs.Document.{package_view}
use Rattle.krates_ids.specs.PackageSpecification.{spec_view}
use Rattle.krates_ids.specs.declared.pkgspec.PkgSpec.{PkgSpec}
use Rattle.krates_questions.specs.Lookup.{resolved_view}
use Rattle.krates_rules.specs.Resolved.{id_of}
use Rattle.krates_units.specs.BuildSetting.{build_setting_view, selection_view}
use Rattle.krates_build_tables.specs.RequestsFlags.{FitsSome}
use Rattle.krates_build_tables.proofs.Selected.{default_told, not_specified, specified_told}
use Rattle.krates_build_tables.proofs.selection.is_selected.Goals as goal

pub returns-in-DefaultMembers : goal.returns-in-DefaultMembers
returns-in-DefaultMembers c =
    default_told (resolved_view c.args.document.now) (build_setting_view c.args.setting.now) (id_of c.args.id.now) c.is_default.result (ap selection_view c.in-DefaultMembers.is) c.is_default.ensures

pub returns-in-Some : goal.returns-in-Some
returns-in-Some c =
    let pkg = package_view c.in-Some.pkg.now in
    let told = subst (λ (specs : List PkgSpec). IsTrue c.fits_some.result ↔ FitsSome (map spec_view specs) pkg) c.deref.ensures.value c.fits_some.ensures in
    specified_told (resolved_view c.args.document.now) (build_setting_view c.args.setting.now) (id_of c.args.id.now) (map spec_view c.in-Packages.specs.items) pkg c.fits_some.result c.agrees.ensures.distinct
    (ap selection_view c.in-Packages.is) c.in-Some.ensures told

pub returns-in-None : goal.returns-in-None
returns-in-None c = (
  λ t. absurd cc,
  λ h. absurd (not_specified (resolved_view c.args.document.now) (build_setting_view c.args.setting.now) (id_of c.args.id.now) (map spec_view c.in-Packages.specs.items) (ap selection_view c.in-Packages.is) c.in-None.ensures h),
)
