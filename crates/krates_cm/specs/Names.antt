-- Which value each text of the document means, for the types that are written as a text.
use Rattle.std.specs.Prelude.{◌++◌, count_by, ◌==◌, ◌||◌, Bool, Option, Some, None, codes, bytes_eq, if◌then◌else◌}
use Rattle.std.specs.List.{list_any}
use Rattle.std.specs.Result.{result_ok}
use Rattle.semver.specs.Parse.{req_of, version_parts}
use Rattle.krates_cm.specs.Document.{Text, VersionModel, RequirementModel}
use Rattle.krates_cm.specs.declared.dependency.DependencyKind.{DependencyKind}
use Rattle.krates_cm.specs.declared.dependency.DependencyKind.TheVariants.{Normal, Development, Build}
use Rattle.krates_cm.specs.declared.target.TargetKind.{TargetKind}
use Rattle.krates_cm.specs.declared.target.TargetKind.TheVariants as kinds
use Rattle.krates_cm.specs.declared.target.CrateType.{CrateType}
use Rattle.krates_cm.specs.declared.target.CrateType.TheVariants as crates
use Rattle.krates_cm.specs.declared.target.Edition.{Edition}
use Rattle.krates_cm.specs.declared.target.Edition.TheVariants.{E2015, E2018, E2021, E2024}

abbrev pub dependency_kind_named : Text → Option DependencyKind
dependency_kind_named s =
    if bytes_eq s (codes "normal") then Some Normal
    else if bytes_eq s (codes "dev") then Some Development
    else if bytes_eq s (codes "build") then Some Build
    else None

abbrev pub target_kind_named : Text → Option TargetKind
target_kind_named s =
    if bytes_eq s (codes "bench") then Some kinds.Bench
    else if bytes_eq s (codes "bin") then Some kinds.Bin
    else if bytes_eq s (codes "custom-build") then Some kinds.CustomBuild
    else if bytes_eq s (codes "cdylib") then Some kinds.CDyLib
    else if bytes_eq s (codes "dylib") then Some kinds.DyLib
    else if bytes_eq s (codes "example") then Some kinds.Example
    else if bytes_eq s (codes "lib") then Some kinds.Lib
    else if bytes_eq s (codes "proc-macro") then Some kinds.ProcMacro
    else if bytes_eq s (codes "rlib") then Some kinds.RLib
    else if bytes_eq s (codes "staticlib") then Some kinds.StaticLib
    else if bytes_eq s (codes "test") then Some kinds.Test
    else None

abbrev pub crate_type_named : Text → Option CrateType
crate_type_named s =
    if bytes_eq s (codes "bin") then Some crates.Bin
    else if bytes_eq s (codes "cdylib") then Some crates.CDyLib
    else if bytes_eq s (codes "dylib") then Some crates.DyLib
    else if bytes_eq s (codes "lib") then Some crates.Lib
    else if bytes_eq s (codes "proc-macro") then Some crates.ProcMacro
    else if bytes_eq s (codes "rlib") then Some crates.RLib
    else if bytes_eq s (codes "staticlib") then Some crates.StaticLib
    else None

abbrev pub edition_named : Text → Option Edition
edition_named s =
    if bytes_eq s (codes "2015") then Some E2015
    else if bytes_eq s (codes "2018") then Some E2018
    else if bytes_eq s (codes "2021") then Some E2021
    else if bytes_eq s (codes "2024") then Some E2024
    else None

-- a semantic version
abbrev pub version_named : Text → Option VersionModel
version_named s = result_ok (version_parts s)

-- a version requirement
abbrev pub requirement_named : Text → Option RequirementModel
requirement_named s = result_ok (req_of s)

-- a version of Rust may leave its patch out: `1.56` means `1.56.0`
abbrev pub with_patch : Text → Text
with_patch s = if count_by (λ b. b == 46) s == 1 then s ++ codes ".0" else s

-- whether a text has a minus or a plus, which a version of Rust lacks
abbrev pub has_extra : Text → Bool
has_extra s = list_any (λ b. b == 45 || b == 43) s

abbrev pub rust_version_named : Text → Option VersionModel
rust_version_named s = if has_extra s then None else version_named (with_patch s)

-- ---- the text of each value

-- a kind as it is printed: a document has null for the normal one
abbrev pub dependency_kind_text : DependencyKind → Text
dependency_kind_text Normal = codes "normal"
dependency_kind_text Development = codes "dev"
dependency_kind_text Build = codes "build"

abbrev pub edition_text : Edition → Text
edition_text E2015 = codes "2015"
edition_text E2018 = codes "2018"
edition_text E2021 = codes "2021"
edition_text E2024 = codes "2024"
