-- The tables of the document: which keys each type has, how the data under each is read, and so
-- which fault a value has that isn't read. One row per key.
use Rattle.std.specs.Prelude.{[], true, codes, None}
use Rattle.serde_json.specs.Data.{null}
use Rattle.krates_cm.specs.Document.{VersionModel, RequirementModel, DepKindInfoModel, NodeDepModel, NodeModel, ResolveModel, DependencyModel, TargetModel, PackageModel, MetadataModel}
use Rattle.krates_cm.specs.Names.{dependency_kind_named, target_kind_named, crate_type_named, edition_named, version_named, requirement_named, rust_version_named}
use Rattle.krates_cm.specs.PackageParts.{AboutModel, SettingsModel}
use Rattle.krates_cm.specs.declared.dependency.DependencyKind.{DependencyKind}
use Rattle.krates_cm.specs.declared.dependency.DependencyKind.TheVariants.{Normal}
use Rattle.krates_cm.specs.declared.target.TargetKind.{TargetKind}
use Rattle.krates_cm.specs.declared.target.CrateType.{CrateType}
use Rattle.krates_cm.specs.declared.target.Edition.{Edition}
use Rattle.krates_cm.specs.declared.target.Edition.TheVariants.{E2015}
use Rattle.krates_cm_json.specs.Faults.{bad_version, bad_requirement, bad_dependency_kind, bad_target_kind, bad_crate_type, bad_edition, bad_rust_version}
use Rattle.krates_cm_json.specs.Reading.{Reader, ◌<*>◌, ◌then◌, read_as, named, null_as, text, boolean, whole, any, list, map_of, present, nullable, object, required, or_default, optional}

-- ---- what is written as a text

abbrev pub dependency_kind : Reader DependencyKind
dependency_kind = null_as Normal (named bad_dependency_kind dependency_kind_named)

abbrev pub target_kind : Reader TargetKind
target_kind = named bad_target_kind target_kind_named

abbrev pub crate_type : Reader CrateType
crate_type = named bad_crate_type crate_type_named

abbrev pub edition : Reader Edition
edition = named bad_edition edition_named

abbrev pub version : Reader VersionModel
version = named bad_version version_named

abbrev pub requirement : Reader RequirementModel
requirement = named bad_requirement requirement_named

abbrev pub rust_version : Reader VersionModel
rust_version = named bad_rust_version rust_version_named

-- ---- the resolved graph

unfoldable pub dep_kind_info : Reader DepKindInfoModel
dep_kind_info key d = object key d then (read_as (λ kind target. record { kind = kind; target = target })
    <*> or_default dependency_kind Normal (codes "kind") d
    <*> optional text (codes "target") d)

unfoldable pub node_dep : Reader NodeDepModel
node_dep key d = object key d then (read_as (λ name pkg dep_kinds. record { name = name; pkg = pkg; dep_kinds = dep_kinds })
    <*> required text (codes "name") d
    <*> required text (codes "pkg") d
    <*> or_default (list dep_kind_info) [] (codes "dep_kinds") d)

unfoldable pub node : Reader NodeModel
node key d = object key d then (read_as (λ id deps dependencies features. record { id = id; deps = deps; dependencies = dependencies; features = features })
    <*> required text (codes "id") d
    <*> or_default (list node_dep) [] (codes "deps") d
    <*> required (list text) (codes "dependencies") d
    <*> or_default (list text) [] (codes "features") d)

unfoldable pub resolve : Reader ResolveModel
resolve key d = object key d then (read_as (λ nodes root. record { nodes = nodes; root = root })
    <*> required (list node) (codes "nodes") d
    <*> required (nullable text) (codes "root") d)

-- ---- packages

unfoldable pub dependency : Reader DependencyModel
dependency key d = object key d then (read_as (λ name source req kind is_optional uses_default_features features target rename registry path. record {
  name = name;
  source = source;
  req = req;
  kind = kind;
  optional = is_optional;
  uses_default_features = uses_default_features;
  features = features;
  target = target;
  rename = rename;
  registry = registry;
  path = path;
})
    <*> required text (codes "name") d
    <*> optional text (codes "source") d
    <*> required requirement (codes "req") d
    <*> or_default dependency_kind Normal (codes "kind") d
    <*> required boolean (codes "optional") d
    <*> required boolean (codes "uses_default_features") d
    <*> required (list text) (codes "features") d
    <*> optional text (codes "target") d
    <*> optional text (codes "rename") d
    <*> optional text (codes "registry") d
    <*> optional text (codes "path") d)

unfoldable pub target : Reader TargetModel
target key d = object key d then (read_as (λ name kind crate_types required_features src_path edition doctest test doc. record {
  name = name;
  kind = kind;
  crate_types = crate_types;
  required_features = required_features;
  src_path = src_path;
  edition = edition;
  doctest = doctest;
  test = test;
  doc = doc;
})
    <*> required text (codes "name") d
    <*> required (list target_kind) (codes "kind") d
    <*> or_default (list crate_type) [] (codes "crate_types") d
    <*> or_default (list text) [] (codes "required-features") d
    <*> required text (codes "src_path") d
    <*> or_default edition E2015 (codes "edition") d
    <*> or_default boolean true (codes "doctest") d
    <*> or_default boolean true (codes "test") d
    <*> or_default boolean true (codes "doc") d)

-- what a package says about itself
unfoldable pub about : Reader AboutModel
about key d = read_as (λ authors description license license_file categories keywords readme repository homepage documentation. record {
  authors = authors;
  description = description;
  license = license;
  license_file = license_file;
  categories = categories;
  keywords = keywords;
  readme = readme;
  repository = repository;
  homepage = homepage;
  documentation = documentation;
})
    <*> or_default (list text) [] (codes "authors") d
    <*> optional text (codes "description") d
    <*> optional text (codes "license") d
    <*> optional text (codes "license_file") d
    <*> or_default (list text) [] (codes "categories") d
    <*> or_default (list text) [] (codes "keywords") d
    <*> optional text (codes "readme") d
    <*> optional text (codes "repository") d
    <*> optional text (codes "homepage") d
    <*> optional text (codes "documentation") d

-- how a package is built and published
unfoldable pub settings : Reader SettingsModel
settings key d = read_as (λ edition metadata links publish default_run rust_version. record {
  edition = edition;
  metadata = metadata;
  links = links;
  publish = publish;
  default_run = default_run;
  rust_version = rust_version;
})
    <*> or_default edition E2015 (codes "edition") d
    <*> or_default any null (codes "metadata") d
    <*> optional text (codes "links") d
    <*> optional (list text) (codes "publish") d
    <*> optional text (codes "default_run") d
    <*> optional rust_version (codes "rust_version") d

unfoldable pub package_reader : Reader PackageModel
package_reader key d = object key d then (read_as (λ name version id source dependencies targets features manifest_path a s. record {
  name = name;
  version = version;
  authors = a.authors;
  id = id;
  source = source;
  description = a.description;
  dependencies = dependencies;
  license = a.license;
  license_file = a.license_file;
  targets = targets;
  features = features;
  manifest_path = manifest_path;
  categories = a.categories;
  keywords = a.keywords;
  readme = a.readme;
  repository = a.repository;
  homepage = a.homepage;
  documentation = a.documentation;
  edition = s.edition;
  metadata = s.metadata;
  links = s.links;
  publish = s.publish;
  default_run = s.default_run;
  rust_version = s.rust_version;
})
    <*> required text (codes "name") d
    <*> required version (codes "version") d
    <*> required text (codes "id") d
    <*> optional text (codes "source") d
    <*> required (list dependency) (codes "dependencies") d
    <*> required (list target) (codes "targets") d
    <*> required (map_of (list text)) (codes "features") d
    <*> required text (codes "manifest_path") d
    <*> about key d
    <*> settings key d)

-- ---- the whole document

unfoldable pub metadata : Reader MetadataModel
metadata key d = object key d then (read_as (λ packages workspace_members workspace_default_members resolve workspace_root target_directory build_directory workspace_metadata version. record {
  packages = packages;
  workspace_members = workspace_members;
  workspace_default_members = workspace_default_members;
  resolve = resolve;
  workspace_root = workspace_root;
  target_directory = target_directory;
  build_directory = build_directory;
  workspace_metadata = workspace_metadata;
  version = version;
})
    <*> required (list package_reader) (codes "packages") d
    <*> required (list text) (codes "workspace_members") d
    <*> or_default (present (list text)) None (codes "workspace_default_members") d
    <*> optional resolve (codes "resolve") d
    <*> required text (codes "workspace_root") d
    <*> required text (codes "target_directory") d
    <*> optional text (codes "build_directory") d
    <*> or_default any null (codes "metadata") d
    <*> or_default whole 0 (codes "version") d)
