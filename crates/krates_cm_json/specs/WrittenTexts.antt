-- The texts that are written for kinds, versions and requirements.
use Rattle.std.specs.Prelude.{◌≡◌, ◌==◌, ◌∷◌, ◌++◌, codes, if◌then◌else◌}
use Rattle.std.specs.Fmt.{decimal}
use Rattle.serde_json.specs.Data.{null, string}
use Rattle.semver.specs.Identifiers.{parts_text}
use Rattle.krates_cm.specs.Document.{Text, VersionModel, RequirementModel}
use Rattle.krates_cm.specs.Names.{edition_text}
use Rattle.krates_cm.specs.declared.dependency.DependencyKind.{DependencyKind}
use Rattle.krates_cm.specs.declared.dependency.DependencyKind.TheVariants.{Normal, Development, Build}
use Rattle.krates_cm.specs.declared.target.TargetKind.{TargetKind}
use Rattle.krates_cm.specs.declared.target.TargetKind.TheVariants as kinds
use Rattle.krates_cm.specs.declared.target.CrateType.{CrateType}
use Rattle.krates_cm.specs.declared.target.CrateType.TheVariants as crates
use Rattle.krates_cm.specs.declared.target.Edition.{Edition}
use Rattle.krates_cm_json.specs.Objects.{Writer}

-- the normal kind is null
abbrev pub KindWritten : Writer DependencyKind
KindWritten Normal d = d ≡ null
KindWritten Development d = d ≡ string (codes "dev")
KindWritten Build d = d ≡ string (codes "build")

abbrev pub target_kind_text : TargetKind → Text
target_kind_text kinds.Bench = codes "bench"
target_kind_text kinds.Bin = codes "bin"
target_kind_text kinds.CustomBuild = codes "custom-build"
target_kind_text kinds.CDyLib = codes "cdylib"
target_kind_text kinds.DyLib = codes "dylib"
target_kind_text kinds.Example = codes "example"
target_kind_text kinds.Lib = codes "lib"
target_kind_text kinds.ProcMacro = codes "proc-macro"
target_kind_text kinds.RLib = codes "rlib"
target_kind_text kinds.StaticLib = codes "staticlib"
target_kind_text kinds.Test = codes "test"

abbrev pub TargetKindWritten : Writer TargetKind
TargetKindWritten kind d = d ≡ string (target_kind_text kind)

abbrev pub crate_type_text : CrateType → Text
crate_type_text crates.Bin = codes "bin"
crate_type_text crates.CDyLib = codes "cdylib"
crate_type_text crates.DyLib = codes "dylib"
crate_type_text crates.Lib = codes "lib"
crate_type_text crates.ProcMacro = codes "proc-macro"
crate_type_text crates.RLib = codes "rlib"
crate_type_text crates.StaticLib = codes "staticlib"

abbrev pub CrateTypeWritten : Writer CrateType
CrateTypeWritten form d = d ≡ string (crate_type_text form)

abbrev pub EditionWritten : Writer Edition
EditionWritten edition d = d ≡ string (edition_text edition)

-- a version, as the crate `semver` prints it
abbrev pub VersionWritten : Writer VersionModel
VersionWritten v d = d ≡ string (parts_text v)

-- a version of Rust: major and minor, and the patch if it isn't 0
abbrev pub rust_version_text : VersionModel → Text
rust_version_text v = if v.2 == 0 then decimal v.0 ++ (46 ∷ decimal v.1) else decimal v.0 ++ (46 ∷ (decimal v.1 ++ (46 ∷ decimal v.2)))

abbrev pub RustVersionWritten : Writer VersionModel
RustVersionWritten v d = d ≡ string (rust_version_text v)

-- a requirement is written as a text, which isn't specified
abbrev pub RequirementWritten : Writer RequirementModel
RequirementWritten req d = (s : Text) × (d ≡ string s)
