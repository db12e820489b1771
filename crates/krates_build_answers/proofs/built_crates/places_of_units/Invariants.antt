use Rattle.std.proofs.Common.{◌≡◌, map, take}
use Rattle.krates_build_answers.specs.BuiltCrates.{of_unit}
use Rattle.krates_build_answers.proofs.built_crates.places_of_units.Given as goal

-- those of the units so far
abbrev pub invariant-loop-unit : goal.invariant-loop-unit
invariant-loop-unit l = l.places.items ≡ map of_unit (take l.unit-index l.units)
