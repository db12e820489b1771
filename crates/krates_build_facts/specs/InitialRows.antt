-- The instances of the rules that use no fact, and those of what is asked for, which a build begins with.
use Rattle.std.specs.Prelude.{ℕ, Bool, if◌then◌else◌, List, [], ◌∷◌, ◌++◌, length}
use Rattle.std.specs.List.{flat_map, range_with_len}
use Rattle.krates_text.specs.FeatureReference.{Reference}
use Rattle.krates_build_tables.specs.References.{reference_view}
use Rattle.krates_build_tables.specs.declared.tables.CrateEntry.{CrateEntry}
use Rattle.krates_build_tables.specs.declared.tables.Tables.{Tables}
use Rattle.krates_build_tables.specs.declared.tables.TargetEntry.{TargetEntry}
use Rattle.krates_build_facts.specs.FactModels.{FactModel, RuleModel, Met, LinkedReference, Activated, ActivatedReference, Compiled}
use Rattle.krates_build_facts.specs.Rows.{goes_to, requires, rule, rule_if}
use Rattle.krates_build_facts.specs.declared.facts.PlacementNumber.{PlacementNumber}
use Rattle.krates_build_facts.specs.declared.facts.PlatformNumber.TheVariants as platforms
use Rattle.krates_units.specs.declared.kinds.Mode.{Mode}
use Rattle.krates_units.specs.declared.kinds.Mode.TheVariants as modes
use Rattle.krates_units.specs.declared.sides.Meeting.TheVariants as meetings
use Rattle.krates_units.specs.declared.sides.Side.TheVariants as sides

-- what is requested of a root
abbrev pub requested : CrateEntry → Reference → List RuleModel
requested e v =
    rule [] (LinkedReference e.number meetings.Root v) ∷ rule [] (ActivatedReference e.number sides.Targets v)
    ∷ rule_if e.starts_on_host [] (ActivatedReference e.number sides.Host v)

-- a root, by itself
abbrev pub root_alone : CrateEntry → List RuleModel
root_alone e = rule [] (Met e.number meetings.Root) ∷ rule [] (Activated e.number sides.Targets)
    ∷ rule_if e.starts_on_host [] (Activated e.number sides.Host)

-- a root, with what is requested of it
abbrev pub root_rows : CrateEntry → List RuleModel
root_rows e = if e.is_root then root_alone e ++ flat_map (λ v. requested e (reference_view v)) e.requested.items else []

-- what is for the machine with this number
abbrev pub machine_place : ℕ → PlacementNumber
machine_place number = record { platform = platforms.Machine number; side = sides.Targets }

-- what a target needs that is asked for: a library requires no features
abbrev pub asked_requires : TargetEntry → List FactModel
asked_requires x = if x.is_library then [] else requires x

-- a target that is asked for in a mode, for a machine
abbrev pub asked_in : Bool → Mode → TargetEntry → ℕ → List RuleModel
asked_in condition mode x number = rule_if condition (asked_requires x)
    (Compiled (record { target = x.place; mode = mode; placement = goes_to x (machine_place number) }))

abbrev pub asked_for_machine : TargetEntry → ℕ → List RuleModel
asked_for_machine x number = asked_in x.is_asked modes.Build x number ++ asked_in x.is_asked_with_tests modes.Test x number

-- a target that is asked for, for each machine; build scripts aren't
abbrev pub asked_rows : ℕ → TargetEntry → List RuleModel
asked_rows machines x = if x.is_script then [] else flat_map (asked_for_machine x) (range_with_len 0 machines)

-- those of a crate
abbrev pub initial_in : ℕ → CrateEntry → List RuleModel
initial_in machines e = root_rows e ++ (if e.is_selected then flat_map (asked_rows machines) e.targets.items else [])

-- how many machines the build is for
abbrev pub machine_count : Tables → ℕ
machine_count t = length t.machines.items

abbrev pub initial_rows : Tables → List RuleModel
initial_rows t = flat_map (initial_in (machine_count t)) t.crates.items
