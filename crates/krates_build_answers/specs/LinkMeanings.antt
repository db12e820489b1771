-- What the links between built crates mean in a document and a build.
use Rattle.std.specs.Prelude.{◌≡◌, ◌≢◌, ◌↔◌, List, Contains, true}
use Rattle.krates_cm.specs.Document.{DependencyModel}
use Rattle.krates_cm.specs.declared.dependency.DependencyKind.{DependencyKind}
use Rattle.krates_cm.specs.declared.dependency.DependencyKind.TheVariants.{Build}
use Rattle.krates_rules.specs.DeclaredDependency.{declared_name}
use Rattle.krates_rules.specs.Facts.{Id, Edge}
use Rattle.krates_rules.specs.Kind.{kind_of}
use Rattle.krates_rules.specs.Resolved.{Resolved}
use Rattle.krates_units.specs.BuildFacts.{ActivatedName, CompiledUnit, Needed, Placement, Platform, ScriptRun}
use Rattle.krates_units.specs.BuildSetting.{BuildSettingModel}
use Rattle.krates_units.specs.Built.{IsDerivable}
use Rattle.krates_units.specs.Machines.{MachineModel}
use Rattle.krates_units.specs.Sides.{HasFeaturesOf}
use Rattle.krates_units.specs.declared.sides.Side.{Side}
use Rattle.krates_build_tables.specs.TablesOf.{AreTables}
use Rattle.krates_build_tables.specs.declared.tables.Tables.{Tables}
use Rattle.krates_build_answers.specs.BuiltMeanings.{BuiltMeans}
use Rattle.krates_build_answers.specs.Links.{AreLinksIn}
use Rattle.krates_build_answers.specs.declared.links.BuildLink.{BuildLink}

-- a crate that is built for a platform needs another that is built for one, by a dependency of a kind
pub record CrateNeed : Type 0 where
  pub parent : Id
  pub from : Platform
  pub child : Id
  pub for : Platform
  pub kind : DependencyKind

-- the edge is from the one crate, of this kind, and the library is of the other crate and for its platform
pub record IsOver (n : CrateNeed) (e : Edge) (u : CompiledUnit) : Type 0 where
  pub parent : e.parent ≡ n.parent
  pub kind : e.kind ≡ n.kind
  pub child : u.krate ≡ n.child
  pub platform : u.placement.platform ≡ n.for

-- the dependency isn't optional, or it is turned on for what has the features of this side
abbrev pub CountsFor : Resolved → BuildSettingModel → Edge → DependencyModel → Side → Type 0
CountsFor r s e d side = d.optional ≡ true → (m : Side) × HasFeaturesOf s side m × IsDerivable r s (ActivatedName e.parent m (declared_name d))

-- What is compiled for a platform needs the library. Or a build script does, over a build dependency that counts for it: then that needs it for
-- which the script is run.
pub data IsNeedOf (r : Resolved) (s : BuildSettingModel) (n : CrateNeed) : Type 0 where
  of_unit : (e : Edge) (d : DependencyModel) (u : CompiledUnit) → IsDerivable r s (Needed e d n.from u) → e.kind ≢ Build → IsOver n e u → IsNeedOf r s n
  of_script : (e : Edge) (d : DependencyModel) (k : Platform) (u : CompiledUnit) → IsDerivable r s (Needed e d k u) → e.kind ≡ Build → IsOver n e u
      → (at : Placement) → IsDerivable r s (ScriptRun e.parent at) → at.platform ≡ n.from → CountsFor r s e d at.side → IsNeedOf r s n

-- the link, by number, is this need
pub record LinkIs (ids : List Id) (ms : List MachineModel) (x : BuildLink) (n : CrateNeed) : Type 0 where
  pub from : BuiltMeans ids ms x.from n.parent n.from
  pub to : BuiltMeans ids ms x.to n.child n.for
  pub kind : x.kind ≡ kind_of n.kind

-- each link is a need of what cargo builds, and each such need has a link
pub record AreNeeds (r : Resolved) (s : BuildSettingModel) (ids : List Id) (ms : List MachineModel) (links : List BuildLink) : Type 0 where
  pub each : (x : BuildLink) → Contains links x → (n : CrateNeed) × LinkIs ids ms x n × IsNeedOf r s n
  pub all : (n : CrateNeed) → IsNeedOf r s n → (x : BuildLink) × Contains links x × LinkIs ids ms x n

-- The links by the tables of a document and a build are the needs of what cargo builds.
abbrev pub LinksAreNeeds : Type 0
LinksAreNeeds = (r : Resolved) (s : BuildSettingModel) (ids : List Id) (ms : List MachineModel) (t : Tables) → AreTables r s ids ms t
    → (links : List BuildLink) → AreLinksIn t links → AreNeeds r s ids ms links
