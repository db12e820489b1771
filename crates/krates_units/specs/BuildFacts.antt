-- The facts about a build that the rules of what cargo builds derive, in three layers: which dependencies exist, which features
-- each crate has on each side, and which units are compiled.
use Rattle.krates_cm.specs.Document.{Text, TargetModel, DependencyModel}
use Rattle.krates_text.specs.FeatureReference.{Reference}
use Rattle.krates_rules.specs.Facts.{Id, Edge}
use Rattle.krates_units.specs.Machines.{MachineModel}
use Rattle.krates_units.specs.declared.kinds.Mode.{Mode}
use Rattle.krates_units.specs.declared.sides.Meeting.{Meeting}
use Rattle.krates_units.specs.declared.sides.Side.{Side}

-- what a unit is compiled for: the host, where the build itself runs it, or a machine that the build is for
pub data Platform : Type 0 where
  host : Platform
  machine : (target : MachineModel) → Platform

-- what a unit is compiled for, and the side of its features
pub record Placement : Type 0 where
  pub platform : Platform
  pub side : Side

-- a unit: a target of a crate, compiled once, in a mode
pub record CompiledUnit : Type 0 where
  pub krate : Id
  pub target : TargetModel
  pub mode : Mode
  pub placement : Placement

-- what may have a derivation
pub data Fact : Type 0 where
  -- which dependencies exist, before sides and target texts
  Met : (id : Id) (meeting : Meeting) → Fact  -- the crate is met
  LinkedReference : (krate : Id) (meeting : Meeting) (reference : Reference) → Fact  -- the reference counts at the crate
  LinkedFeature : (krate : Id) (meeting : Meeting) (name : Text) → Fact  -- the feature of the crate is enabled
  LinkedName : (krate : Id) (meeting : Meeting) (dep : Text) → Fact  -- the crate's dependencies of this name are turned on
  Linked : (edge : Edge) (dep : DependencyModel) → Fact  -- the dependency exists, and is resolved by the edge
  Lost : (krate : Id) (dep : DependencyModel) → Fact  -- the dependency would exist, and the document lacks its edge
  -- which crates and features are activated on a side
  Activated : (id : Id) (side : Side) → Fact  -- the crate takes part
  ActivatedReference : (krate : Id) (side : Side) (reference : Reference) → Fact  -- the reference counts at the crate
  ActivatedFeature : (krate : Id) (side : Side) (name : Text) → Fact  -- the feature of the crate is enabled
  ActivatedName : (krate : Id) (side : Side) (dep : Text) → Fact  -- the crate's dependencies of this name are turned on
  Used : (edge : Edge) (dep : DependencyModel) (side : Side) → Fact  -- from this side of the parent, the dependency counts
  Available : (krate : Id) (text : Text) → Fact  -- the text is an enabled feature, for a target that requires it
  -- what is compiled, and what is run
  Compiled : (unit : CompiledUnit) → Fact  -- the unit is compiled
  -- what is compiled for this platform needs the library, by the dependency that the edge resolves
  Needed : (edge : Edge) (dep : DependencyModel) (from : Platform) (library : CompiledUnit) → Fact
  ScriptRun : (krate : Id) (placement : Placement) → Fact  -- the crate's build script is run for what is placed so
  ScriptCompiled : (krate : Id) (side : Side) → Fact  -- the crate's build script is compiled, for the host, with the features of this side
  -- a run of the parent's build script, for what is placed so, needs the run of the child's for what is placed so, by the dependency that
  -- the edge resolves
  RunNeeded : (edge : Edge) (dep : DependencyModel) (from run : Placement) → Fact
