-- What a verdict means by the rules of what cargo builds, for the tables of a document and a build.
use Rattle.std.specs.Prelude.{ℕ, IsTrue, List}
use Rattle.std.specs.BTreeSet.{BTreeSet, contains}
use Rattle.std.specs.Ordering.{nat_cmp}
use Rattle.krates_rules.specs.Facts.{Id}
use Rattle.krates_rules.specs.Resolved.{Resolved}
use Rattle.krates_units.specs.BuildFacts as means
use Rattle.krates_units.specs.BuildFacts.{CompiledUnit, Fact}
use Rattle.krates_units.specs.BuildSetting.{BuildSettingModel}
use Rattle.krates_units.specs.Built.{IsDerivable}
use Rattle.krates_units.specs.Machines.{MachineModel}
use Rattle.krates_units.specs.declared.sides.Side.{Side}
use Rattle.krates_build_tables.specs.TablesOf.{AreTables, CrateAt}
use Rattle.krates_build_tables.specs.declared.tables.Tables.{Tables}
use Rattle.krates_build_facts.specs.FactModels.{fact_view}
use Rattle.krates_build_facts.specs.Meanings.{Means}
use Rattle.krates_build_facts.specs.declared.facts.BuildFact.{BuildFact}
use Rattle.krates_build_verdict.specs.BuildVerdicts.{Holds}
use Rattle.krates_build_verdict.specs.declared.verdict.BuildVerdict.TheVariants as verdicts

-- the crate has a number that is among these
abbrev pub IsAmong : List Id → BTreeSet ℕ → Id → Type 0
IsAmong ids krates i = (number : ℕ) × CrateAt ids number i × IsTrue (contains nat_cmp krates number)

-- the fact of a verdict means one that is derivable
abbrev pub FollowsIsDerivable : Type 0
FollowsIsDerivable = (r : Resolved) (s : BuildSettingModel) (ids : List Id) (ms : List MachineModel) (t : Tables) → AreTables r s ids ms t
    → (fact : BuildFact) (steps : ℕ) → Holds t (verdicts.Follows fact steps) → (f : Fact) × Means r s ids ms t (fact_view fact) f × IsDerivable r s f

-- a crate of which a unit is compiled is one of those of a verdict
abbrev pub CompiledIsAmong : Type 0
CompiledIsAmong = (r : Resolved) (s : BuildSettingModel) (ids : List Id) (ms : List MachineModel) (t : Tables) → AreTables r s ids ms t
    → (krates : BTreeSet ℕ) → Holds t (verdicts.Nothing krates) → (u : CompiledUnit) → IsDerivable r s (means.Compiled u) → IsAmong ids krates u.krate

-- so is one whose build script is compiled
abbrev pub ScriptIsAmong : Type 0
ScriptIsAmong = (r : Resolved) (s : BuildSettingModel) (ids : List Id) (ms : List MachineModel) (t : Tables) → AreTables r s ids ms t
    → (krates : BTreeSet ℕ) → Holds t (verdicts.Nothing krates) → (i : Id) (n : Side) → IsDerivable r s (means.ScriptCompiled i n) → IsAmong ids krates i
