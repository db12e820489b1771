-- The tables of the document as it is written: which keys each type has, in their order, and the data under
-- each. One row per key.
use Rattle.std.specs.Prelude.{◌==◌, length, not, is_some, codes}
use Rattle.krates_cm.specs.Document.{DepKindInfoModel, NodeDepModel, NodeModel, ResolveModel, DependencyModel, TargetModel, PackageModel, MetadataModel}
use Rattle.krates_cm_json.specs.Objects.{Writer, TextWritten, BooleanWritten, WholeWritten, AnyWritten, OptionWritten, ListWritten, MapWritten, Table, ObjectWritten, ◌also◌, always, only_where, no_more}
use Rattle.krates_cm_json.specs.WrittenTexts.{KindWritten, TargetKindWritten, CrateTypeWritten, EditionWritten, VersionWritten, RustVersionWritten, RequirementWritten}

-- ---- the resolved graph

abbrev pub dep_kind_info_table : DepKindInfoModel → Table
dep_kind_info_table m =
    always (codes "kind") (KindWritten m.kind)
    also always (codes "target") (OptionWritten TextWritten m.target)
    also no_more

abbrev pub DepKindInfoWritten : Writer DepKindInfoModel
DepKindInfoWritten m = ObjectWritten (dep_kind_info_table m)

abbrev pub node_dep_table : NodeDepModel → Table
node_dep_table m =
    always (codes "dep_kinds") (ListWritten DepKindInfoWritten m.dep_kinds)
    also always (codes "name") (TextWritten m.name)
    also always (codes "pkg") (TextWritten m.pkg)
    also no_more

abbrev pub NodeDepWritten : Writer NodeDepModel
NodeDepWritten m = ObjectWritten (node_dep_table m)

abbrev pub node_table : NodeModel → Table
node_table m =
    always (codes "dependencies") (ListWritten TextWritten m.dependencies)
    also always (codes "deps") (ListWritten NodeDepWritten m.deps)
    also always (codes "features") (ListWritten TextWritten m.features)
    also always (codes "id") (TextWritten m.id)
    also no_more

abbrev pub NodeWritten : Writer NodeModel
NodeWritten m = ObjectWritten (node_table m)

abbrev pub resolve_table : ResolveModel → Table
resolve_table m =
    always (codes "nodes") (ListWritten NodeWritten m.nodes)
    also always (codes "root") (OptionWritten TextWritten m.root)
    also no_more

abbrev pub ResolveWritten : Writer ResolveModel
ResolveWritten m = ObjectWritten (resolve_table m)

-- ---- packages

abbrev pub dependency_table : DependencyModel → Table
dependency_table m =
    always (codes "features") (ListWritten TextWritten m.features)
    also always (codes "kind") (KindWritten m.kind)
    also always (codes "name") (TextWritten m.name)
    also always (codes "optional") (BooleanWritten m.optional)
    also only_where (is_some m.path) (codes "path") (OptionWritten TextWritten m.path)
    also always (codes "registry") (OptionWritten TextWritten m.registry)
    also always (codes "rename") (OptionWritten TextWritten m.rename)
    also always (codes "req") (RequirementWritten m.req)
    also always (codes "source") (OptionWritten TextWritten m.source)
    also always (codes "target") (OptionWritten TextWritten m.target)
    also always (codes "uses_default_features") (BooleanWritten m.uses_default_features)
    also no_more

abbrev pub DependencyWritten : Writer DependencyModel
DependencyWritten m = ObjectWritten (dependency_table m)

abbrev pub target_table : TargetModel → Table
target_table m =
    always (codes "crate_types") (ListWritten CrateTypeWritten m.crate_types)
    also always (codes "doc") (BooleanWritten m.doc)
    also always (codes "doctest") (BooleanWritten m.doctest)
    also always (codes "edition") (EditionWritten m.edition)
    also always (codes "kind") (ListWritten TargetKindWritten m.kind)
    also always (codes "name") (TextWritten m.name)
    also only_where (not (length m.required_features == 0)) (codes "required-features") (ListWritten TextWritten m.required_features)
    also always (codes "src_path") (TextWritten m.src_path)
    also always (codes "test") (BooleanWritten m.test)
    also no_more

abbrev pub TargetWritten : Writer TargetModel
TargetWritten m = ObjectWritten (target_table m)

abbrev pub package_table : PackageModel → Table
package_table m =
    always (codes "authors") (ListWritten TextWritten m.authors)
    also always (codes "categories") (ListWritten TextWritten m.categories)
    also always (codes "default_run") (OptionWritten TextWritten m.default_run)
    also always (codes "dependencies") (ListWritten DependencyWritten m.dependencies)
    also always (codes "description") (OptionWritten TextWritten m.description)
    also always (codes "documentation") (OptionWritten TextWritten m.documentation)
    also always (codes "edition") (EditionWritten m.edition)
    also always (codes "features") (MapWritten (ListWritten TextWritten) m.features)
    also always (codes "homepage") (OptionWritten TextWritten m.homepage)
    also always (codes "id") (TextWritten m.id)
    also always (codes "keywords") (ListWritten TextWritten m.keywords)
    also always (codes "license") (OptionWritten TextWritten m.license)
    also always (codes "license_file") (OptionWritten TextWritten m.license_file)
    also always (codes "links") (OptionWritten TextWritten m.links)
    also always (codes "manifest_path") (TextWritten m.manifest_path)
    also always (codes "metadata") (AnyWritten m.metadata)
    also always (codes "name") (TextWritten m.name)
    also always (codes "publish") (OptionWritten (ListWritten TextWritten) m.publish)
    also always (codes "readme") (OptionWritten TextWritten m.readme)
    also always (codes "repository") (OptionWritten TextWritten m.repository)
    also always (codes "rust_version") (OptionWritten RustVersionWritten m.rust_version)
    also always (codes "source") (OptionWritten TextWritten m.source)
    also always (codes "targets") (ListWritten TargetWritten m.targets)
    also always (codes "version") (VersionWritten m.version)
    also no_more

abbrev pub PackageWritten : Writer PackageModel
PackageWritten m = ObjectWritten (package_table m)

-- ---- the whole document

abbrev pub metadata_table : MetadataModel → Table
metadata_table m =
    only_where (is_some m.build_directory) (codes "build_directory") (OptionWritten TextWritten m.build_directory)
    also always (codes "metadata") (AnyWritten m.workspace_metadata)
    also always (codes "packages") (ListWritten PackageWritten m.packages)
    also always (codes "resolve") (OptionWritten ResolveWritten m.resolve)
    also always (codes "target_directory") (TextWritten m.target_directory)
    also always (codes "version") (WholeWritten m.version)
    also only_where (is_some m.workspace_default_members) (codes "workspace_default_members") (OptionWritten (ListWritten TextWritten) m.workspace_default_members)
    also always (codes "workspace_members") (ListWritten TextWritten m.workspace_members)
    also always (codes "workspace_root") (TextWritten m.workspace_root)
    also no_more

abbrev pub MetadataWritten : Writer MetadataModel
MetadataWritten m = ObjectWritten (metadata_table m)
