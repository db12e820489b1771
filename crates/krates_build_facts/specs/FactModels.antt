-- Facts by number, and instances of rules over them, as clauses see them.
use Rattle.std.specs.Prelude.{ℕ, List}
use Rattle.krates_cm.specs.Document.{Text}
use Rattle.krates_text.specs.FeatureReference.{Reference}
use Rattle.krates_build_tables.specs.References.{reference_view}
use Rattle.krates_build_tables.specs.declared.tables.LinkPlace.{LinkPlace}
use Rattle.krates_build_facts.specs.declared.facts.BuildFact.{BuildFact}
use Rattle.krates_build_facts.specs.declared.facts.BuildFact.TheVariants as facts
use Rattle.krates_build_facts.specs.declared.facts.PlacementNumber.{PlacementNumber}
use Rattle.krates_build_facts.specs.declared.facts.PlatformNumber.{PlatformNumber}
use Rattle.krates_build_facts.specs.declared.facts.UnitPlace.{UnitPlace}
use Rattle.krates_units.specs.declared.sides.Meeting.{Meeting}
use Rattle.krates_units.specs.declared.sides.Side.{Side}

-- what may have a derivation, with crates by number, links and targets by place
pub data FactModel : Type 0 where
  Met : (krate : ℕ) (meeting : Meeting) → FactModel
  LinkedReference : (krate : ℕ) (meeting : Meeting) (reference : Reference) → FactModel
  LinkedFeature : (krate : ℕ) (meeting : Meeting) (name : Text) → FactModel
  LinkedName : (krate : ℕ) (meeting : Meeting) (dep : Text) → FactModel
  Linked : (place : LinkPlace) → FactModel
  Lost : (krate index : ℕ) → FactModel
  Activated : (krate : ℕ) (side : Side) → FactModel
  ActivatedReference : (krate : ℕ) (side : Side) (reference : Reference) → FactModel
  ActivatedFeature : (krate : ℕ) (side : Side) (name : Text) → FactModel
  ActivatedName : (krate : ℕ) (side : Side) (dep : Text) → FactModel
  Used : (place : LinkPlace) (side : Side) → FactModel
  Available : (krate : ℕ) (text : Text) → FactModel
  Compiled : (unit : UnitPlace) → FactModel
  Needed : (place : LinkPlace) (from : PlatformNumber) (library : UnitPlace) → FactModel
  ScriptRun : (krate : ℕ) (placement : PlacementNumber) → FactModel
  ScriptCompiled : (krate : ℕ) (side : Side) → FactModel
  RunNeeded : (place : LinkPlace) (from run : PlacementNumber) → FactModel

-- a fact, by its texts
abbrev pub fact_view : BuildFact → FactModel
fact_view (facts.Met krate meeting) = Met krate meeting
fact_view (facts.LinkedReference krate meeting reference) = LinkedReference krate meeting (reference_view reference)
fact_view (facts.LinkedFeature krate meeting name) = LinkedFeature krate meeting name.now
fact_view (facts.LinkedName krate meeting dep) = LinkedName krate meeting dep.now
fact_view (facts.Linked place) = Linked place
fact_view (facts.Lost krate index) = Lost krate index
fact_view (facts.Activated krate side) = Activated krate side
fact_view (facts.ActivatedReference krate side reference) = ActivatedReference krate side (reference_view reference)
fact_view (facts.ActivatedFeature krate side name) = ActivatedFeature krate side name.now
fact_view (facts.ActivatedName krate side dep) = ActivatedName krate side dep.now
fact_view (facts.Used place side) = Used place side
fact_view (facts.Available krate text) = Available krate text.now
fact_view (facts.Compiled unit) = Compiled unit
fact_view (facts.Needed place from library) = Needed place from library
fact_view (facts.ScriptRun krate placement) = ScriptRun krate placement
fact_view (facts.ScriptCompiled krate side) = ScriptCompiled krate side
fact_view (facts.RunNeeded place from run) = RunNeeded place from run

-- an instance of a rule: where all its premises hold, its fact holds
pub record RuleModel : Type 0 where
  pub premises : List FactModel
  pub fact : FactModel
