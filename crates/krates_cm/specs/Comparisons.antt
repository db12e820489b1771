-- The places of the variants of the enums that hold nothing: by these they are ordered and hashed.
use Rattle.std.specs.Prelude.{ℕ}
use Rattle.krates_cm.specs.declared.dependency.DependencyKind.{DependencyKind}
use Rattle.krates_cm.specs.declared.dependency.DependencyKind.TheVariants as dependency
use Rattle.krates_cm.specs.declared.target.TargetKind.{TargetKind}
use Rattle.krates_cm.specs.declared.target.TargetKind.TheVariants as kind
use Rattle.krates_cm.specs.declared.target.CrateType.{CrateType}
use Rattle.krates_cm.specs.declared.target.CrateType.TheVariants as form
use Rattle.krates_cm.specs.declared.target.Edition.{Edition}
use Rattle.krates_cm.specs.declared.target.Edition.TheVariants as edition

-- editions, by their years
abbrev pub edition_place : Edition → ℕ
edition_place edition.E2015 = 0
edition_place edition.E2018 = 1
edition_place edition.E2021 = 2
edition_place edition.E2024 = 3

-- kinds of targets, by their names in the program
abbrev pub kind_place : TargetKind → ℕ
kind_place kind.Bench = 0
kind_place kind.Bin = 1
kind_place kind.CustomBuild = 2
kind_place kind.CDyLib = 3
kind_place kind.DyLib = 4
kind_place kind.Example = 5
kind_place kind.Lib = 6
kind_place kind.ProcMacro = 7
kind_place kind.RLib = 8
kind_place kind.StaticLib = 9
kind_place kind.Test = 10

-- forms of what the compiler writes, by their names in the program
abbrev pub form_place : CrateType → ℕ
form_place form.Bin = 0
form_place form.CDyLib = 1
form_place form.DyLib = 2
form_place form.Lib = 3
form_place form.ProcMacro = 4
form_place form.RLib = 5
form_place form.StaticLib = 6

-- kinds of dependencies
abbrev pub dependency_kind_place : DependencyKind → ℕ
dependency_kind_place dependency.Normal = 0
dependency_kind_place dependency.Development = 1
dependency_kind_place dependency.Build = 2
