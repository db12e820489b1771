-- Packages and whole documents that were read are written as data that reads as them again.
use Rattle.std.proofs.Common.{◌≡◌, List, [], ◌∷◌, Option, Some, None, refl}
use Rattle.std.specs.Prelude.{codes, MatchOption}
use Rattle.serde_json.specs.Data.{Data, null, boolean, number, string, array, object, Items, no_items, item}
use Rattle.serde_json.specs.Find.{get}
use Rattle.krates_cm.specs.Document.{Text, VersionModel, DependencyModel, PackageModel, MetadataModel}
use Rattle.krates_cm.specs.declared.target.Edition.TheVariants.{E2015}
use Rattle.krates_cm_json.specs.Faults.{missing}
use Rattle.krates_cm_json.specs.Reading.{text, whole, any, list, map_of, refused, nullable}
use Rattle.krates_cm_json.specs.Tables.{edition, version, rust_version, dependency, target, about, settings, package_reader, resolve, metadata}
use Rattle.krates_cm_json.specs.Objects.{Writer, TextWritten, AnyWritten, WholeWritten, OptionWritten, EachWritten, ListWritten, MapWritten}
use Rattle.krates_cm_json.specs.RoundTrip.{RequirementReads, PackageRequirementsRead, RequirementsRead}
use Rattle.krates_cm_json.specs.WrittenTexts.{EditionWritten, VersionWritten, RustVersionWritten}
use Rattle.krates_cm_json.specs.WrittenTables.{package_table, metadata_table, DependencyWritten, TargetWritten, PackageWritten, ResolveWritten, MetadataWritten}
use Rattle.krates_cm_json.proofs.ReadAgain.{ReadsBack, NeverNull, text_again, whole_again, any_again, edition_again, list_again, map_again, nullable_again, text_never_null, list_never_null, found_again, required_again, default_again, optional_again, only_some_again, present_again, told, object_again, dependency_again, target_again, resolve_again, resolve_never_null}
use Rattle.krates_cm_json.proofs.ReadBefore.{RustNamed, PackageNamed, EachNamed}
use Rattle.krates_cm_json.proofs.VersionsAgain.{named_again, rust_again}

-- ---- two facts about the same data

both_there : (P Q : Data → Type 0) (o : Option Data) → MatchOption o ⊥ P → MatchOption o ⊥ Q → MatchOption o ⊥ (λ d. P d × Q d)
both_there P Q None p q = p
both_there P Q (Some d) p q = (p, q)

both_each : {A : Type 0} (V W : Writer A) (xs : List A) (ds : Items) → EachWritten V xs ds → EachWritten W xs ds → EachWritten (λ x d. V x d × W x d) xs ds
both_each V W [] no_items v w = tt
both_each V W [] (item d ds) v w = v
both_each V W (x ∷ xs) no_items v w = v
both_each V W (x ∷ xs) (item d ds) v w = ((v.0, w.0), both_each V W xs ds v.1 w.1)

both_lists : {A : Type 0} (V W : Writer A) (xs : List A) (d : Data) → ListWritten V xs d × ListWritten W xs d → ListWritten (λ x e. V x e × W x e) xs d
both_lists V W xs (array ds) (v, w) = both_each V W xs ds v w
both_lists V W xs null (v, w) = v
both_lists V W xs (boolean b) (v, w) = v
both_lists V W xs (number n) (v, w) = v
both_lists V W xs (string s) (v, w) = v
both_lists V W xs (object ms) (v, w) = v

there_too : (P Q : Data → Type 0) (o : Option Data) → ((d : Data) → P d → Q d) → MatchOption o ⊥ P → MatchOption o ⊥ Q
there_too P Q None more p = p
there_too P Q (Some d) more p = more d p

-- ---- packages

abbrev RustWritten : Writer VersionModel
RustWritten v d = RustVersionWritten v d × RustNamed (Some v)

rust_version_again : ReadsBack rust_version RustWritten
rust_version_again key v d (is, (s, names)) = rw is (rust_again s v names)

rust_never_null : NeverNull RustWritten
rust_never_null v (is, names) = absurd cc

rust_written : (o : Option VersionModel) (d : Data) → RustNamed o → OptionWritten RustVersionWritten o d → OptionWritten RustWritten o d
rust_written None d names is = is
rust_written (Some v) d names is = (is, names)

about_again : (key : Text) (m : PackageModel) (d : Data) → PackageWritten m d → (about key d).value ≡ Some (record {
  authors = m.authors;
  description = m.description;
  license = m.license;
  license_file = m.license_file;
  categories = m.categories;
  keywords = m.keywords;
  readme = m.readme;
  repository = m.repository;
  homepage = m.homepage;
  documentation = m.documentation;
})
unfolding about
about_again key m d w =
    let table = package_table m in
    rw (
      default_again (list text) (ListWritten TextWritten) (list_again text TextWritten text_again) [] (codes "authors") m.authors d (told table d (codes "authors") w),
      optional_again text TextWritten text_never_null text_again (codes "description") m.description d (told table d (codes "description") w),
      optional_again text TextWritten text_never_null text_again (codes "license") m.license d (told table d (codes "license") w),
      optional_again text TextWritten text_never_null text_again (codes "license_file") m.license_file d (told table d (codes "license_file") w),
      default_again (list text) (ListWritten TextWritten) (list_again text TextWritten text_again) [] (codes "categories") m.categories d (told table d (codes "categories") w),
      default_again (list text) (ListWritten TextWritten) (list_again text TextWritten text_again) [] (codes "keywords") m.keywords d (told table d (codes "keywords") w),
      optional_again text TextWritten text_never_null text_again (codes "readme") m.readme d (told table d (codes "readme") w),
      optional_again text TextWritten text_never_null text_again (codes "repository") m.repository d (told table d (codes "repository") w),
      optional_again text TextWritten text_never_null text_again (codes "homepage") m.homepage d (told table d (codes "homepage") w),
      optional_again text TextWritten text_never_null text_again (codes "documentation") m.documentation d (told table d (codes "documentation") w),
    ) refl

settings_again : (key : Text) (m : PackageModel) (d : Data) → RustNamed m.rust_version → PackageWritten m d → (settings key d).value ≡ Some (record {
  edition = m.edition;
  metadata = m.metadata;
  links = m.links;
  publish = m.publish;
  default_run = m.default_run;
  rust_version = m.rust_version;
})
unfolding settings
settings_again key m d names w =
    let table = package_table m in
    let rust = there_too (OptionWritten RustVersionWritten m.rust_version) (OptionWritten RustWritten m.rust_version) (get (codes "rust_version") d) (λ e is. rust_written m.rust_version e names is) (told table d (codes "rust_version") w) in
    rw (
      default_again edition EditionWritten edition_again E2015 (codes "edition") m.edition d (told table d (codes "edition") w),
      default_again any AnyWritten any_again null (codes "metadata") m.metadata d (told table d (codes "metadata") w),
      optional_again text TextWritten text_never_null text_again (codes "links") m.links d (told table d (codes "links") w),
      optional_again (list text) (ListWritten TextWritten) (list_never_null TextWritten) (list_again text TextWritten text_again) (codes "publish") m.publish d (told table d (codes "publish") w),
      optional_again text TextWritten text_never_null text_again (codes "default_run") m.default_run d (told table d (codes "default_run") w),
      optional_again rust_version RustWritten rust_never_null rust_version_again (codes "rust_version") m.rust_version d rust,
    ) refl

abbrev DependencyWrittenAgain : Writer DependencyModel
DependencyWrittenAgain m d = DependencyWritten m d × RequirementReads m d

-- the data of a package whose versions have texts and whose requirements read back
abbrev pub PackageWrittenAgain : Writer PackageModel
PackageWrittenAgain m d = (PackageWritten m d × PackageRequirementsRead m d) × PackageNamed m

pub package_again : ReadsBack package_reader PackageWrittenAgain
unfolding package_reader
package_again key m d ((w, reads), names) =
    let table = package_table m in
    let here = get (codes "dependencies") d in
    let both = both_there (ListWritten DependencyWritten m.dependencies) (ListWritten RequirementReads m.dependencies) here (told table d (codes "dependencies") w) reads in
    let dependencies = there_too _ (ListWritten DependencyWrittenAgain m.dependencies) here (both_lists DependencyWritten RequirementReads m.dependencies) both in
    rw (
      object_again table key d w,
      required_again text TextWritten text_again (codes "name") m.name d (told table d (codes "name") w),
      found_again (refused (missing (codes "version"))) (version (codes "version")) (VersionWritten m.version) m.version (get (codes "version") d) (λ e is. rw is (named_again names.version.0 m.version names.version.1)) (told table d (codes "version") w),
      required_again text TextWritten text_again (codes "id") m.id d (told table d (codes "id") w),
      optional_again text TextWritten text_never_null text_again (codes "source") m.source d (told table d (codes "source") w),
      required_again (list dependency) (ListWritten DependencyWrittenAgain) (list_again dependency DependencyWrittenAgain dependency_again) (codes "dependencies") m.dependencies d dependencies,
      required_again (list target) (ListWritten TargetWritten) (list_again target TargetWritten target_again) (codes "targets") m.targets d (told table d (codes "targets") w),
      required_again (map_of (list text)) (MapWritten (ListWritten TextWritten)) (map_again (list text) (ListWritten TextWritten) (list_again text TextWritten text_again)) (codes "features") m.features d (told table d (codes "features") w),
      required_again text TextWritten text_again (codes "manifest_path") m.manifest_path d (told table d (codes "manifest_path") w),
      about_again key m d w,
      settings_again key m d names.rust_version w,
    ) refl

-- ---- the whole document

named_each : (W : Writer PackageModel) (ps : List PackageModel) (ds : Items) → EachNamed ps → EachWritten W ps ds → EachWritten (λ p d. W p d × PackageNamed p) ps ds
named_each W [] no_items names w = tt
named_each W [] (item d ds) names w = w
named_each W (p ∷ ps) no_items names w = w
named_each W (p ∷ ps) (item d ds) names w = ((w.0, names.0), named_each W ps ds names.1 w.1)

named_list : (W : Writer PackageModel) (ps : List PackageModel) (d : Data) → EachNamed ps → ListWritten W ps d → ListWritten (λ p e. W p e × PackageNamed p) ps d
named_list W ps (array ds) names w = named_each W ps ds names w
named_list W ps null names w = w
named_list W ps (boolean b) names w = w
named_list W ps (number n) names w = w
named_list W ps (string s) names w = w
named_list W ps (object ms) names w = w

pub metadata_again : (key : Text) (m : MetadataModel) (d : Data) → MetadataWritten m d → RequirementsRead m d → EachNamed m.packages → (metadata key d).value ≡ Some m
unfolding metadata
metadata_again key m d w reads names =
    let table = metadata_table m in
    let here = get (codes "packages") d in
    let both = both_there (ListWritten PackageWritten m.packages) (ListWritten PackageRequirementsRead m.packages) here (told table d (codes "packages") w) reads in
    let packages = there_too _ (ListWritten PackageWrittenAgain m.packages) here (λ e ws. named_list _ m.packages e names (both_lists PackageWritten PackageRequirementsRead m.packages e ws)) both in
    rw (
      object_again table key d w,
      required_again (list package_reader) (ListWritten PackageWrittenAgain) (list_again package_reader PackageWrittenAgain package_again) (codes "packages") m.packages d packages,
      required_again (list text) (ListWritten TextWritten) (list_again text TextWritten text_again) (codes "workspace_members") m.workspace_members d (told table d (codes "workspace_members") w),
      present_again (list text) (ListWritten TextWritten) (list_again text TextWritten text_again) (codes "workspace_default_members") m.workspace_default_members d (told table d (codes "workspace_default_members") w),
      optional_again resolve ResolveWritten resolve_never_null resolve_again (codes "resolve") m.resolve d (told table d (codes "resolve") w),
      required_again text TextWritten text_again (codes "workspace_root") m.workspace_root d (told table d (codes "workspace_root") w),
      required_again text TextWritten text_again (codes "target_directory") m.target_directory d (told table d (codes "target_directory") w),
      only_some_again (nullable text) (OptionWritten TextWritten) (nullable_again text TextWritten text_never_null text_again) (codes "build_directory") m.build_directory d (told table d (codes "build_directory") w),
      default_again any AnyWritten any_again null (codes "metadata") m.workspace_metadata d (told table d (codes "metadata") w),
      default_again whole WholeWritten whole_again 0 (codes "version") m.version d (told table d (codes "version") w),
    ) refl
