use Rattle.std.proofs.Common.{◌≡◌, ◌++◌, map, take}
use Rattle.krates_build_answers.specs.BuiltCrates.{of_script, of_unit}
use Rattle.krates_build_answers.proofs.built_crates.places_of.Given as goal

-- those of the units, and of the build scripts so far
abbrev pub invariant-loop-script : goal.invariant-loop-script
invariant-loop-script l = l.places.items ≡ map of_unit l.units ++ map of_script (take l.script-index l.scripts)
