-- Whether flags ask for a target, computed from what it is.
use Rattle.std.specs.Prelude.{◌&&◌, ◌||◌, Bool, not}
use Rattle.krates_units.specs.BuildSetting.{asks_kinds}
use Rattle.krates_units.specs.declared.setting.TargetFlags.{TargetFlags}

-- as itself, where it is such a library, program or example
abbrev pub ask_to_build : TargetFlags → (library program example : Bool) → Bool
ask_to_build flags library program example =
    (not (asks_kinds flags) && (library || program)) || ((flags.lib || flags.all) && library) || ((flags.bins || flags.all) && program)
    || ((flags.examples || flags.all) && example)

-- with its tests, where it has some, or is such a library, program or benchmark
abbrev pub ask_to_test : TargetFlags → (tests library program benchmark : Bool) → Bool
ask_to_test flags tests library program benchmark =
    ((flags.tests || flags.all) && tests) || ((flags.benches || flags.all) && (library || program || benchmark))
