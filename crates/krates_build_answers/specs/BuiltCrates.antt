-- By number: the crates that a build compiles, each with what for.
use Rattle.std.specs.Prelude.{◌≡◌, ◌↔◌, ℕ, Any, List, Contains}
use Rattle.krates_build_tables.specs.declared.tables.Tables.{Tables}
use Rattle.krates_build_facts.specs.FactModels.{Compiled}
use Rattle.krates_build_facts.specs.Meanings.{Follows}
use Rattle.krates_build_facts.specs.declared.facts.PlatformNumber.TheVariants.{Host, Machine}
use Rattle.krates_build_facts.specs.declared.facts.UnitPlace.{UnitPlace}
use Rattle.krates_built.specs.BuildLists.{script_fact}
use Rattle.krates_built.specs.declared.places.ScriptPlace.{ScriptPlace}
use Rattle.krates_build_answers.specs.declared.built_crates.BuiltCrate.{BuiltCrate}

-- the crate of a unit, with what the unit is compiled for
abbrev pub of_unit : UnitPlace → BuiltCrate
of_unit u = record { krate = u.target.krate; platform = u.placement.platform }

-- that of a build script, which is compiled for the host
abbrev pub of_script : ScriptPlace → BuiltCrate
of_script x = record { krate = x.krate; platform = Host }

-- a unit of the crate is compiled for the platform, or, for the host, its build script is
pub data IsBuiltAt (t : Tables) (x : BuiltCrate) : Type 0 where
  as_unit : (u : UnitPlace) → Follows t (Compiled u) → of_unit u ≡ x → IsBuiltAt t x
  as_script : (u : ScriptPlace) → Follows t (script_fact u) → of_script u ≡ x → IsBuiltAt t x

-- these are exactly the crates that are built, each with each platform
abbrev pub AreBuiltIn : Tables → List BuiltCrate → Type 0
AreBuiltIn t built = (x : BuiltCrate) → Contains built x ↔ IsBuiltAt t x

-- ---- for people

-- the crate is among these, for whatever it is built
abbrev pub IsAmong : ℕ → List BuiltCrate → Type 0
IsAmong krate built = Any (λ (x : BuiltCrate). x.krate ≡ krate) built

-- the crate is among those for the host
abbrev pub IsForHost : ℕ → List BuiltCrate → Type 0
IsForHost krate built = Contains built (record { krate = krate; platform = Host })

-- it is the crate, for a machine that the build is for
abbrev pub IsForMachine : ℕ → BuiltCrate → Type 0
IsForMachine krate x = (number : ℕ) × (x ≡ record { krate = krate; platform = Machine number })

-- the crate is among those for some machine
abbrev pub IsForTargets : ℕ → List BuiltCrate → Type 0
IsForTargets krate built = Any (IsForMachine krate) built
