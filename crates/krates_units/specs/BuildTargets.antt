-- What kinds of targets there are, and which of them a build asks for (Cargo Book, "Cargo Targets", and "cargo build", "Target
-- Selection").
use Rattle.std.specs.Prelude.{◌≡◌, ◌≢◌, ◌⊎◌, ◌||◌, Bool, true, false, None, Any, Contains}
use Rattle.krates_cm.specs.Document.{TargetModel, PackageModel}
use Rattle.krates_cm.specs.declared.target.TargetKind.{TargetKind}
use Rattle.krates_cm.specs.declared.target.TargetKind.TheVariants as kinds
use Rattle.krates_cm.specs.declared.target.CrateType.TheVariants as types
use Rattle.krates_rules.specs.Facts.{Id}
use Rattle.krates_rules.specs.Resolved.{Resolved, HasPackage}
use Rattle.krates_units.specs.BuildSetting.{asks_kinds}
use Rattle.krates_units.specs.declared.kinds.Mode.{Mode}
use Rattle.krates_units.specs.declared.kinds.Mode.TheVariants as modes
use Rattle.krates_units.specs.declared.setting.TargetFlags.{TargetFlags}

-- ---- kinds

-- whether this is a form of a library
abbrev pub is_library_kind : TargetKind → Bool
is_library_kind kinds.Bench = false
is_library_kind kinds.Bin = false
is_library_kind kinds.CustomBuild = false
is_library_kind kinds.CDyLib = true
is_library_kind kinds.DyLib = true
is_library_kind kinds.Example = false
is_library_kind kinds.Lib = true
is_library_kind kinds.ProcMacro = true
is_library_kind kinds.RLib = true
is_library_kind kinds.StaticLib = true
is_library_kind kinds.Test = false

-- whether this is a form of a library that Rust code is linked with (Rust Reference, "Linkage")
abbrev pub is_linkable_kind : TargetKind → Bool
is_linkable_kind kinds.Bench = false
is_linkable_kind kinds.Bin = false
is_linkable_kind kinds.CustomBuild = false
is_linkable_kind kinds.CDyLib = false
is_linkable_kind kinds.DyLib = true
is_linkable_kind kinds.Example = false
is_linkable_kind kinds.Lib = true
is_linkable_kind kinds.ProcMacro = true
is_linkable_kind kinds.RLib = true
is_linkable_kind kinds.StaticLib = false
is_linkable_kind kinds.Test = false

-- the target is a library
abbrev pub IsLibrary : TargetModel → Type 0
IsLibrary t = Any (λ kind. is_library_kind kind ≡ true) t.kind

-- the target is a library that Rust code is linked with
abbrev pub IsLinkable : TargetModel → Type 0
IsLinkable t = Any (λ kind. is_linkable_kind kind ≡ true) t.kind

-- the target is a build script
abbrev pub IsScript : TargetModel → Type 0
IsScript t = Contains t.kind kinds.CustomBuild

-- the target is a procedural macro: a library, or an example in that form
pub data IsMacro (t : TargetModel) : Type 0 where
  library : Contains t.kind kinds.ProcMacro → IsMacro t
  example : Contains t.kind kinds.Example → Contains t.crate_types types.ProcMacro → IsMacro t

-- ---- the targets of a crate

-- the crate's package has the target
pub record HasTarget (r : Resolved) (i : Id) (t : TargetModel) : Type 0 where
  pub pkg : PackageModel
  pub has_package : HasPackage r i pkg
  pub among : Contains pkg.targets t

-- the crate has a target for which this holds
abbrev pub HasTargetThat : Resolved → Id → (TargetModel → Type 0) → Type 0
HasTargetThat r i P = (t : TargetModel) × HasTarget r i t × P t

-- some target of the crate is a procedural macro
abbrev pub HasMacro : Resolved → Id → Type 0
HasMacro r i = HasTargetThat r i IsMacro

-- the library of the crate is a procedural macro
abbrev pub IsMacroCrate : Resolved → Id → Type 0
IsMacroCrate r i = HasTargetThat r i (λ t. Contains t.kind kinds.ProcMacro)

-- the crate's package says that it links to a native library
abbrev pub LinksNatively : Resolved → Id → Type 0
LinksNatively r i = (p : PackageModel) × HasPackage r i p × (p.links ≢ None)

-- ---- what is asked for

-- A target of a selected package is asked for, in this mode. The document doesn't say of which libraries and programs the manifest has
-- `bench = false`, so each has the mode in which it is tested.
pub data AsksFor (flags : TargetFlags) (t : TargetModel) : Mode → Type 0 where
  by_default : asks_kinds flags ≡ false → IsLibrary t ⊎ Contains t.kind kinds.Bin → AsksFor flags t modes.Build
  as_library : (flags.lib || flags.all) ≡ true → IsLibrary t → AsksFor flags t modes.Build
  as_program : (flags.bins || flags.all) ≡ true → Contains t.kind kinds.Bin → AsksFor flags t modes.Build
  as_example : (flags.examples || flags.all) ≡ true → Contains t.kind kinds.Example → AsksFor flags t modes.Build
  as_test : (flags.tests || flags.all) ≡ true → t.test ≡ true → AsksFor flags t modes.Test
  as_benchmark : (flags.benches || flags.all) ≡ true → IsLibrary t ⊎ Contains t.kind kinds.Bin ⊎ Contains t.kind kinds.Bench
      → AsksFor flags t modes.Test

-- the target has dev dependencies, in this mode (Cargo Book, "Specifying Dependencies", "Development dependencies")
pub data UsesDev (t : TargetModel) (mode : Mode) : Type 0 where
  with_tests : mode ≡ modes.Test → UsesDev t mode
  test : Contains t.kind kinds.Test → UsesDev t mode
  example : Contains t.kind kinds.Example → UsesDev t mode

-- the target is compiled with its tests, and may run the programs of its package (Cargo Book, "Cargo Targets", "Integration tests")
pub record RunsPrograms (t : TargetModel) (mode : Mode) : Type 0 where
  pub with_tests : mode ≡ modes.Test
  pub kind : Contains t.kind kinds.Test ⊎ Contains t.kind kinds.Bench
