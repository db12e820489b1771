-- The words for kinds, sides and the like, and what each means.
use Rattle.std.specs.Prelude.{List, [], ◌∷◌, Option, Some, None, codes, bytes_eq, if◌then◌else◌}
use Rattle.krates_cm.specs.Document.{Text}
use Rattle.krates_cm.specs.declared.dependency.DependencyKind.{DependencyKind}
use Rattle.krates_cm.specs.declared.dependency.DependencyKind.TheVariants.{Normal, Development, Build}
use Rattle.krates_cm.specs.declared.target.TargetKind.{TargetKind}
use Rattle.krates_cm.specs.declared.target.TargetKind.TheVariants as kinds
use Rattle.krates_text.specs.FeatureReference.{Reference, krate, weak, strong, simple}
use Rattle.krates_units.specs.declared.kinds.Mode.{Mode}
use Rattle.krates_units.specs.declared.kinds.Mode.TheVariants as modes
use Rattle.krates_units.specs.declared.sides.Meeting.{Meeting}
use Rattle.krates_units.specs.declared.sides.Meeting.TheVariants as meetings
use Rattle.krates_units.specs.declared.sides.Side.{Side}
use Rattle.krates_units.specs.declared.sides.Side.TheVariants as sides

-- ---- what a word means

unfoldable pub meeting_named : Text → Option Meeting
meeting_named s =
    if bytes_eq s (codes "root") then Some meetings.Root
    else if bytes_eq s (codes "dependency") then Some meetings.Dependency
    else None

unfoldable pub side_named : Text → Option Side
side_named s =
    if bytes_eq s (codes "targets") then Some sides.Targets
    else if bytes_eq s (codes "host") then Some sides.Host
    else None

unfoldable pub mode_named : Text → Option Mode
mode_named s =
    if bytes_eq s (codes "build") then Some modes.Build
    else if bytes_eq s (codes "test") then Some modes.Test
    else None

-- the reference, which names no feature of a dependency, so that the word for one is empty
abbrev pub unless_said : Text → Reference → Option Reference
unless_said feature v = if bytes_eq feature (codes "") then Some v else None

-- a reference: its form, then the name of a dependency or a feature, and then, in two forms, a feature of that dependency
unfoldable pub reference_named : (form name feature : Text) → Option Reference
reference_named form name feature =
    if bytes_eq form (codes "dep") then unless_said feature (krate name)
    else if bytes_eq form (codes "weak") then Some (weak name feature)
    else if bytes_eq form (codes "strong") then Some (strong name feature)
    else if bytes_eq form (codes "feature") then unless_said feature (simple name)
    else None

-- ---- the word for something

abbrev pub meeting_text : Meeting → Text
meeting_text meetings.Root = codes "root"
meeting_text meetings.Dependency = codes "dependency"

abbrev pub side_text : Side → Text
side_text sides.Targets = codes "targets"
side_text sides.Host = codes "host"

abbrev pub mode_text : Mode → Text
mode_text modes.Build = codes "build"
mode_text modes.Test = codes "test"

abbrev pub kind_text : DependencyKind → Text
kind_text Normal = codes "normal"
kind_text Development = codes "dev"
kind_text Build = codes "build"

-- a target text, or a star where there is none
abbrev pub target_text : Option Text → Text
target_text None = codes "*"
target_text (Some text) = text

abbrev pub target_kind_text : TargetKind → Text
target_kind_text kinds.Bench = codes "bench"
target_kind_text kinds.Bin = codes "bin"
target_kind_text kinds.CustomBuild = codes "custom-build"
target_kind_text kinds.CDyLib = codes "cdylib"
target_kind_text kinds.DyLib = codes "dylib"
target_kind_text kinds.Example = codes "example"
target_kind_text kinds.Lib = codes "lib"
target_kind_text kinds.ProcMacro = codes "proc-macro"
target_kind_text kinds.RLib = codes "rlib"
target_kind_text kinds.StaticLib = codes "staticlib"
target_kind_text kinds.Test = codes "test"

-- the word for several kinds is that for the first
abbrev pub target_kinds_text : List TargetKind → Text
target_kinds_text [] = codes ""
target_kinds_text (kind ∷ kinds) = target_kind_text kind
