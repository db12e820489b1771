-- What facts by number mean in a document and a build, and what follows from the instances that the tables have.
use Rattle.std.specs.Prelude.{◌≡◌, ◌⊎◌, ◌↔◌, ⊤, ℕ, List, [], ◌∷◌, Contains, Some, slice_get}
use Rattle.krates_cm.specs.Document.{DependencyModel, dependency_view, target_view}
use Rattle.krates_rules.specs.Facts.{Id, Edge}
use Rattle.krates_rules.specs.Resolved.{Resolved}
use Rattle.krates_units.specs.BuildFacts.{Fact, CompiledUnit, Platform, Placement, host, machine}
use Rattle.krates_units.specs.BuildFacts as means
use Rattle.krates_units.specs.BuildRules.{Rule}
use Rattle.krates_units.specs.BuildSetting.{BuildSettingModel}
use Rattle.krates_units.specs.Built.{IsDerivable}
use Rattle.krates_units.specs.Machines.{MachineModel}
use Rattle.krates_build_tables.specs.TablesOf.{AreTables, CrateAt, LinkSays}
use Rattle.krates_build_tables.specs.declared.tables.CrateEntry.{CrateEntry}
use Rattle.krates_build_tables.specs.declared.tables.Lacking.{Lacking}
use Rattle.krates_build_tables.specs.declared.tables.Link.{Link}
use Rattle.krates_build_tables.specs.declared.tables.LinkPlace.{LinkPlace}
use Rattle.krates_build_tables.specs.declared.tables.Tables.{Tables}
use Rattle.krates_build_tables.specs.declared.tables.TargetEntry.{TargetEntry}
use Rattle.krates_build_facts.specs.FactModels.{FactModel, Met, LinkedReference, LinkedFeature, LinkedName, Linked, Lost, Activated, ActivatedReference, ActivatedFeature, ActivatedName, Used, Available, Compiled, Needed, ScriptRun, ScriptCompiled, RunNeeded}
use Rattle.krates_build_facts.specs.InitialRows.{initial_rows}
use Rattle.krates_build_facts.specs.Rows.{rows_of, rule}
use Rattle.krates_build_facts.specs.declared.facts.PlacementNumber.{PlacementNumber}
use Rattle.krates_build_facts.specs.declared.facts.PlatformNumber.{PlatformNumber}
use Rattle.krates_build_facts.specs.declared.facts.PlatformNumber.TheVariants as platforms
use Rattle.krates_build_facts.specs.declared.facts.UnitPlace.{UnitPlace}

-- ---- what follows

-- the tables have this instance
abbrev pub IsRow : Tables → List FactModel → FactModel → Type 0
IsRow t premises f = Contains (initial_rows t) (rule premises f) ⊎ ((begin : FactModel) × Contains (rows_of t begin) (rule premises f))

-- the fact has a finite derivation by such instances
pub data Follows (t : Tables) : FactModel → Type 0 where
  by_row : {premises : List FactModel} {f : FactModel} → IsRow t premises f
      → ((g : FactModel) → Contains premises g → Follows t g) → Follows t f

-- ---- what facts mean

-- the number is that of a crate with this id, whose entry is this
pub record EntryAt (ids : List Id) (t : Tables) (number : ℕ) (i : Id) (e : CrateEntry) : Type 0 where
  pub crate_at : CrateAt ids number i
  pub at : slice_get t.crates.items number ≡ Some e

-- the link at the place is of this edge and of this declared dependency
pub record LinkMeans (r : Resolved) (s : BuildSettingModel) (ids : List Id) (ms : List MachineModel) (t : Tables) (place : LinkPlace) (e : Edge) (d : DependencyModel) : Type 0 where
  pub id : Id
  pub entry : CrateEntry
  pub entry_at : EntryAt ids t place.krate id entry
  pub link : Link
  pub at : slice_get entry.links.items place.index ≡ Some link
  pub says : LinkSays r s ids ms id link e d

-- the declared dependency of the crate is at the place among those that are lacking
pub record LackingMeans (ids : List Id) (t : Tables) (number index : ℕ) (i : Id) (d : DependencyModel) : Type 0 where
  pub entry : CrateEntry
  pub entry_at : EntryAt ids t number i entry
  pub lacking : Lacking
  pub at : slice_get entry.lacking.items index ≡ Some lacking
  pub declared : dependency_view lacking.declared.now ≡ d

-- the platform has this number
abbrev pub PlatformMeans : List MachineModel → PlatformNumber → Platform → Type 0
PlatformMeans ms platforms.Host k = k ≡ host
PlatformMeans ms (platforms.Machine number) k = (m : MachineModel) × (slice_get ms number ≡ Some m) × (k ≡ machine m)

-- the placement has this number
pub record PlacementMeans (ms : List MachineModel) (number : PlacementNumber) (at : Placement) : Type 0 where
  pub platform : PlatformMeans ms number.platform at.platform
  pub side : number.side ≡ at.side

-- the unit is at the place
pub record UnitMeans (ids : List Id) (ms : List MachineModel) (t : Tables) (place : UnitPlace) (u : CompiledUnit) : Type 0 where
  pub entry : CrateEntry
  pub entry_at : EntryAt ids t place.target.krate u.krate entry
  pub target : TargetEntry
  pub at : slice_get entry.targets.items place.target.index ≡ Some target
  pub target_is : target_view target.target.now ≡ u.target
  pub mode : place.mode ≡ u.mode
  pub placement : PlacementMeans ms place.placement u.placement

-- the fact by number means the fact
abbrev pub Means : (r : Resolved) (s : BuildSettingModel) (ids : List Id) (ms : List MachineModel) (t : Tables) → FactModel → Fact → Type 0
Means r s ids ms t (Met c m) f = (i : Id) × CrateAt ids c i × (f ≡ means.Met i m)
Means r s ids ms t (LinkedReference c m v) f = (i : Id) × CrateAt ids c i × (f ≡ means.LinkedReference i m v)
Means r s ids ms t (LinkedFeature c m g) f = (i : Id) × CrateAt ids c i × (f ≡ means.LinkedFeature i m g)
Means r s ids ms t (LinkedName c m d) f = (i : Id) × CrateAt ids c i × (f ≡ means.LinkedName i m d)
Means r s ids ms t (Linked place) f = (e : Edge) × (d : DependencyModel) × LinkMeans r s ids ms t place e d × (f ≡ means.Linked e d)
Means r s ids ms t (Lost c index) f = (i : Id) × (d : DependencyModel) × LackingMeans ids t c index i d × (f ≡ means.Lost i d)
Means r s ids ms t (Activated c n) f = (i : Id) × CrateAt ids c i × (f ≡ means.Activated i n)
Means r s ids ms t (ActivatedReference c n v) f = (i : Id) × CrateAt ids c i × (f ≡ means.ActivatedReference i n v)
Means r s ids ms t (ActivatedFeature c n g) f = (i : Id) × CrateAt ids c i × (f ≡ means.ActivatedFeature i n g)
Means r s ids ms t (ActivatedName c n d) f = (i : Id) × CrateAt ids c i × (f ≡ means.ActivatedName i n d)
Means r s ids ms t (Used place n) f = (e : Edge) × (d : DependencyModel) × LinkMeans r s ids ms t place e d × (f ≡ means.Used e d n)
Means r s ids ms t (Available c text) f = (i : Id) × CrateAt ids c i × (f ≡ means.Available i text)
Means r s ids ms t (Compiled place) f = (u : CompiledUnit) × UnitMeans ids ms t place u × (f ≡ means.Compiled u)
Means r s ids ms t (Needed place from library) f = (e : Edge) × (d : DependencyModel) × (k : Platform) × (u : CompiledUnit)
    × LinkMeans r s ids ms t place e d × PlatformMeans ms from k × UnitMeans ids ms t library u × (f ≡ means.Needed e d k u)
Means r s ids ms t (ScriptRun c at) f = (i : Id) × (a : Placement) × CrateAt ids c i × PlacementMeans ms at a × (f ≡ means.ScriptRun i a)
Means r s ids ms t (ScriptCompiled c n) f = (i : Id) × CrateAt ids c i × (f ≡ means.ScriptCompiled i n)
Means r s ids ms t (RunNeeded place from run) f = (e : Edge) × (d : DependencyModel) × (a : Placement) × (b : Placement)
    × LinkMeans r s ids ms t place e d × PlacementMeans ms from a × PlacementMeans ms run b × (f ≡ means.RunNeeded e d a b)

-- the facts by number mean these facts, one by one
abbrev pub AreMeant : (r : Resolved) (s : BuildSettingModel) (ids : List Id) (ms : List MachineModel) (t : Tables) → List FactModel
    → List Fact → Type 0
AreMeant r s ids ms t [] [] = ⊤
AreMeant r s ids ms t [] (f ∷ fs) = ⊥
AreMeant r s ids ms t (n ∷ ns) [] = ⊥
AreMeant r s ids ms t (n ∷ ns) (f ∷ fs) = Means r s ids ms t n f × AreMeant r s ids ms t ns fs

-- An instance that the tables have, with premises that mean facts, is one rule with these premises, in their order.
abbrev pub EachRowIsRule : Type 0
EachRowIsRule = (r : Resolved) (s : BuildSettingModel) (ids : List Id) (ms : List MachineModel) (t : Tables) → AreTables r s ids ms t
    → (premises : List FactModel) (number : FactModel) → IsRow t premises number
    → (facts : List Fact) → AreMeant r s ids ms t premises facts → (f : Fact) × Means r s ids ms t number f × Rule r s facts f

-- By the instances that the tables have follow exactly the facts that are derivable by the rules.
abbrev pub FollowsAsDerivable : Type 0
FollowsAsDerivable = (r : Resolved) (s : BuildSettingModel) (ids : List Id) (ms : List MachineModel) (t : Tables) → AreTables r s ids ms t
    → (number : FactModel) (f : Fact) → Means r s ids ms t number f → Follows t number ↔ IsDerivable r s f

-- What follows means a fact that is derivable.
abbrev pub EachHasMeaning : Type 0
EachHasMeaning = (r : Resolved) (s : BuildSettingModel) (ids : List Id) (ms : List MachineModel) (t : Tables) → AreTables r s ids ms t
    → (number : FactModel) → Follows t number → (f : Fact) × Means r s ids ms t number f × IsDerivable r s f

-- What is derivable has a number, which follows.
abbrev pub EachHasNumber : Type 0
EachHasNumber = (r : Resolved) (s : BuildSettingModel) (ids : List Id) (ms : List MachineModel) (t : Tables) → AreTables r s ids ms t
    → (f : Fact) → IsDerivable r s f → (number : FactModel) × Means r s ids ms t number f × Follows t number
