-- The types of the document as clauses see them: a text is its bytes, a `Vec` the list of its items,
-- a map the list of its entries in the order of the keys. Versions, requirements and free-form JSON are
-- seen by the words of the crates that read them.
use Rattle.std.specs.Prelude.{ℕ, List, Bool, Option, option_map, map, string_bytes, String}
use Rattle.std.specs.BTreeMap.{BTreeMap}
use Rattle.std.specs.Global.{Vec}
use Rattle.std.specs.declared.alloc.Global.{Global}
use Rattle.semver.specs.Parse.{Held}
use Rattle.semver.specs.Identifiers.{comparator_view, parts_of}
use Rattle.semver.specs.declared.VersionReq.{VersionReq}
use Rattle.serde_json.specs.Data.{Data}
use Rattle.serde_json.specs.View.{view}
use Rattle.krates_cm.specs.declared.package_id.PackageId.{PackageId}
use Rattle.krates_cm.specs.declared.resolve.Resolve.{Resolve}
use Rattle.krates_cm.specs.declared.resolve.Node.{Node}
use Rattle.krates_cm.specs.declared.resolve.NodeDep.{NodeDep}
use Rattle.krates_cm.specs.declared.resolve.DepKindInfo.{DepKindInfo}
use Rattle.krates_cm.specs.declared.dependency.DependencyKind.{DependencyKind}
use Rattle.krates_cm.specs.declared.dependency.Dependency.{Dependency}
use Rattle.krates_cm.specs.declared.metadata.Metadata.{Metadata}
use Rattle.krates_cm.specs.declared.metadata.WorkspaceDefaultMembers.{WorkspaceDefaultMembers}
use Rattle.krates_cm.specs.declared.package.Package.{Package}
use Rattle.krates_cm.specs.declared.package.Source.{Source}
use Rattle.krates_cm.specs.declared.target.Target.{Target}
use Rattle.krates_cm.specs.declared.target.TargetKind.{TargetKind}
use Rattle.krates_cm.specs.declared.target.CrateType.{CrateType}
use Rattle.krates_cm.specs.declared.target.Edition.{Edition}

-- a text, as its bytes
abbrev pub Text : Type 0
Text = List ℕ

-- the bytes of a text
abbrev pub text_view : String Global → Text
text_view s = string_bytes s

-- the texts of a list
abbrev pub texts_view : Vec (String Global) → List Text
texts_view v = map text_view v.items

-- the text of a package id
abbrev pub id_view : PackageId → Text
id_view id = text_view id.repr

-- the texts of a list of package ids
abbrev pub ids_view : Vec PackageId → List Text
ids_view ids = map id_view ids.items

-- the text of a source
abbrev pub source_view : Source → Text
source_view s = text_view s.repr

-- ---- versions, as the crate `semver` names their parts

-- major, minor, patch, pre-release and build metadata
abbrev pub VersionModel : Type 0
VersionModel = ℕ × ℕ × ℕ × List ℕ × List ℕ

-- the comparators of a requirement
abbrev pub RequirementModel : Type 0
RequirementModel = List Held

-- the comparators of a requirement
abbrev pub requirement_view : VersionReq → RequirementModel
requirement_view r = map comparator_view r.comparators.items

-- ---- the resolved graph

-- for what a dependency of a node is needed, and on which target
pub record DepKindInfoModel : Type 0 where
  pub kind : DependencyKind
  pub target : Option Text

-- a kind and a target, as clauses see them
abbrev pub dep_kind_info_view : DepKindInfo → DepKindInfoModel
dep_kind_info_view k = record { kind = k.kind; target = option_map text_view k.target }

-- a dependency of a node of the resolved graph
pub record NodeDepModel : Type 0 where
  pub name : Text
  pub pkg : Text
  pub dep_kinds : List DepKindInfoModel

-- a dependency of a node, as clauses see it
abbrev pub node_dep_view : NodeDep → NodeDepModel
node_dep_view d = record {
  name = text_view d.name;
  pkg = id_view d.pkg;
  dep_kinds = map dep_kind_info_view d.dep_kinds.items;
}

-- a node of the resolved graph
pub record NodeModel : Type 0 where
  pub id : Text
  pub deps : List NodeDepModel
  pub dependencies : List Text
  pub features : List Text

-- a node, as clauses see it
abbrev pub node_view : Node → NodeModel
node_view n = record {
  id = id_view n.id;
  deps = map node_dep_view n.deps.items;
  dependencies = ids_view n.dependencies;
  features = texts_view n.features;
}

-- the resolved graph
pub record ResolveModel : Type 0 where
  pub nodes : List NodeModel
  pub root : Option Text

-- the resolved graph, as clauses see it
abbrev pub resolve_view : Resolve → ResolveModel
resolve_view r = record { nodes = map node_view r.nodes.items; root = option_map id_view r.root }

-- ---- packages

-- a dependency that a package declares
pub record DependencyModel : Type 0 where
  pub name : Text
  pub source : Option Text
  pub req : RequirementModel
  pub kind : DependencyKind
  pub optional : Bool
  pub uses_default_features : Bool
  pub features : List Text
  pub target : Option Text
  pub rename : Option Text
  pub registry : Option Text
  pub path : Option Text

-- a declared dependency, as clauses see it
abbrev pub dependency_view : Dependency → DependencyModel
dependency_view d = record {
  name = text_view d.name;
  source = option_map text_view d.source;
  req = requirement_view d.req;
  kind = d.kind;
  optional = d.optional;
  uses_default_features = d.uses_default_features;
  features = texts_view d.features;
  target = option_map text_view d.target;
  rename = option_map text_view d.rename;
  registry = option_map text_view d.registry;
  path = option_map text_view d.path;
}

-- a library, binary, test or other target of a package
pub record TargetModel : Type 0 where
  pub name : Text
  pub kind : List TargetKind
  pub crate_types : List CrateType
  pub required_features : List Text
  pub src_path : Text
  pub edition : Edition
  pub doctest : Bool
  pub test : Bool
  pub doc : Bool

-- a target, as clauses see it
abbrev pub target_view : Target → TargetModel
target_view t = record {
  name = text_view t.name;
  kind = t.kind.items;
  crate_types = t.crate_types.items;
  required_features = texts_view t.required_features;
  src_path = text_view t.src_path;
  edition = t.edition;
  doctest = t.doctest;
  test = t.test;
  doc = t.doc;
}

-- the features of a package, by name, each with what it enables
abbrev pub FeaturesModel : Type 0
FeaturesModel = List (Text × List Text)

-- the features of a map, in the order of their names
abbrev pub features_view : BTreeMap (String Global) (Vec (String Global)) → FeaturesModel
features_view m = map (λ e. (text_view e.0, texts_view e.1)) m.entries

-- a package of the document
pub record PackageModel : Type 0 where
  pub name : Text
  pub version : VersionModel
  pub authors : List Text
  pub id : Text
  pub source : Option Text
  pub description : Option Text
  pub dependencies : List DependencyModel
  pub license : Option Text
  pub license_file : Option Text
  pub targets : List TargetModel
  pub features : FeaturesModel
  pub manifest_path : Text
  pub categories : List Text
  pub keywords : List Text
  pub readme : Option Text
  pub repository : Option Text
  pub homepage : Option Text
  pub documentation : Option Text
  pub edition : Edition
  pub metadata : Data
  pub links : Option Text
  pub publish : Option (List Text)
  pub default_run : Option Text
  pub rust_version : Option VersionModel

-- a package, as clauses see it
abbrev pub package_view : Package → PackageModel
package_view p = record {
  name = text_view p.name;
  version = parts_of p.version;
  authors = texts_view p.authors;
  id = id_view p.id;
  source = option_map source_view p.source;
  description = option_map text_view p.description;
  dependencies = map dependency_view p.dependencies.items;
  license = option_map text_view p.license;
  license_file = option_map text_view p.license_file;
  targets = map target_view p.targets.items;
  features = features_view p.features;
  manifest_path = text_view p.manifest_path;
  categories = texts_view p.categories;
  keywords = texts_view p.keywords;
  readme = option_map text_view p.readme;
  repository = option_map text_view p.repository;
  homepage = option_map text_view p.homepage;
  documentation = option_map text_view p.documentation;
  edition = p.edition;
  metadata = view p.metadata;
  links = option_map text_view p.links;
  publish = option_map texts_view p.publish;
  default_run = option_map text_view p.default_run;
  rust_version = option_map parts_of p.rust_version;
}

-- ---- the whole document

-- the default members, where the document has them
abbrev pub default_members_view : WorkspaceDefaultMembers → Option (List Text)
default_members_view m = option_map ids_view m.0

-- the whole document
pub record MetadataModel : Type 0 where
  pub packages : List PackageModel
  pub workspace_members : List Text
  pub workspace_default_members : Option (List Text)
  pub resolve : Option ResolveModel
  pub workspace_root : Text
  pub target_directory : Text
  pub build_directory : Option Text
  pub workspace_metadata : Data
  pub version : ℕ

-- the whole document, as clauses see it
abbrev pub metadata_view : Metadata → MetadataModel
metadata_view m = record {
  packages = map package_view m.packages.items;
  workspace_members = ids_view m.workspace_members;
  workspace_default_members = default_members_view m.workspace_default_members;
  resolve = option_map resolve_view m.resolve;
  workspace_root = text_view m.workspace_root;
  target_directory = text_view m.target_directory;
  build_directory = option_map text_view m.build_directory;
  workspace_metadata = view m.workspace_metadata;
  version = m.version;
}
