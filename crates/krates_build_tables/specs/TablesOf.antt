-- Which tables are those of a document and a build: each entry decides a side condition of the rules.
use Rattle.std.specs.Prelude.{◌≡◌, ◌↔◌, ◌<◌, ℕ, List, [], ◌∷◌, false, Option, Some, IsTrue, Contains, length, map, option_map, slice_get, slice_index_or, take}
use Rattle.std.specs.BTreeMap.{get_by}
use Rattle.std.specs.Cmp.Lexicographic.{slice_cmp}
use Rattle.std.specs.Global.{Vec}
use Rattle.std.specs.Ordering.{nat_cmp}
use Rattle.krates_cm.specs.Document.{Text, TargetModel, DependencyModel, PackageModel, dependency_view, target_view}
use Rattle.krates_cm.specs.declared.target.TargetKind.TheVariants.{Bin}
use Rattle.krates_text.specs.FeatureReference.{Reference}
use Rattle.krates_rules.specs.DeclaredDependency.{declared_name}
use Rattle.krates_rules.specs.Facts.{Id, Edge}
use Rattle.krates_rules.specs.Features.{HasReference}
use Rattle.krates_rules.specs.Resolved.{Resolved, HasPackage}
use Rattle.krates_units.specs.BuildSetting.{BuildSettingModel, IsFirst, machines}
use Rattle.krates_units.specs.BuildTargets.{AsksFor, HasTarget, HasTargetThat, IsLibrary, IsLinkable, IsMacro, IsScript, LinksNatively, RunsPrograms, UsesDev}
use Rattle.krates_units.specs.Machines.{MachineModel, PassesOn}
use Rattle.krates_units.specs.Requests.{GivesFeature, HasFeature, IsBuildRoot, IsRequested, IsSelected, KnowsOptional}
use Rattle.krates_units.specs.Resolves.{LacksEdge, Resolves}
use Rattle.krates_units.specs.Sides.{Counts, Leads, LooksOn, StartsOn}
use Rattle.krates_units.specs.declared.kinds.Mode.TheVariants as modes
use Rattle.krates_units.specs.declared.sides.Side.{Side}
use Rattle.krates_units.specs.declared.sides.Side.TheVariants as sides
use Rattle.krates_build_tables.specs.Judgements.{lent_machines}
use Rattle.krates_build_tables.specs.References.{reference_view}
use Rattle.krates_build_tables.specs.declared.reference.FeatureReference.{FeatureReference}
use Rattle.krates_build_tables.specs.declared.tables.CrateEntry.{CrateEntry}
use Rattle.krates_build_tables.specs.declared.tables.Lacking.{Lacking}
use Rattle.krates_build_tables.specs.declared.tables.Link.{Link}
use Rattle.krates_build_tables.specs.declared.tables.Tables.{Tables}
use Rattle.krates_build_tables.specs.declared.tables.TargetEntry.{TargetEntry}

-- the crate with this number has this id
abbrev pub CrateAt : List Id → ℕ → Id → Type 0
CrateAt ids number i = slice_get ids number ≡ Some i

-- the list has no element twice
abbrev pub HasEachOnce : {A : Type 0} → List A → Type 0
HasEachOnce {A} xs = (j k : ℕ) (x : A) → slice_get xs j ≡ Some x → slice_get xs k ≡ Some x → j ≡ k

-- from the beginning of the list to some place there is the first element, and the second isn't yet
abbrev pub ComesBefore : {A : Type 0} → List A → A → A → Type 0
ComesBefore xs x y = (n : ℕ) × Contains (take n xs) x × ¬ Contains (take n xs) y

-- the elements of the second list come in the order in which they first stand in the first
abbrev pub ComeInOrder : {A : Type 0} → List A → List A → Type 0
ComeInOrder {A} xs ys = (j k : ℕ) (x y : A) → slice_get ys j ≡ Some x → slice_get ys k ≡ Some y → j < k → ComesBefore xs x y

-- ---- links

-- the link is of this edge of the crate, and of this declared dependency, and decides what the rules ask of them
pub record LinkSays (r : Resolved) (s : BuildSettingModel) (ids : List Id) (ms : List MachineModel) (i : Id) (l : Link) (e : Edge) (d : DependencyModel) : Type 0 where
  pub parent : e.parent ≡ i
  pub child : CrateAt ids l.child e.child
  pub kind : e.kind ≡ l.kind
  pub cfg : e.cfg ≡ option_map (λ t. t.now) l.cfg
  pub declared : dependency_view l.declared.now ≡ d
  pub name : l.name.now ≡ declared_name d
  pub optional : l.is_optional ≡ d.optional
  pub feature : IsTrue l.is_feature ↔ HasFeature r i (declared_name d)
  pub given : (g : Text) → GivesFeature r d e.child g ↔ Contains (map (λ t. t.now) l.given.items) g
  pub counts_for_targets : IsTrue l.counts_for_targets ↔ Counts r s sides.Targets e
  pub counts_for_host : IsTrue l.counts_for_host ↔ Counts r s sides.Host e
  pub leads : (m : Side) → Leads r s sides.Targets e m ↔ (m ≡ l.leads_to)
  pub looks : (m : Side) → LooksOn r s e m ↔ (m ≡ l.looks_on)
  pub host : IsTrue l.passes_on_host ↔ PassesOn (s.host ∷ []) e.cfg
  pub machines : (k : ℕ) (m : MachineModel) → slice_get ms k ≡ Some m
      → IsTrue (slice_index_or l.passes_on.items k false) ↔ PassesOn (m ∷ []) e.cfg

-- an edge of the crate by which a declared dependency is resolved
pub record IsLinkOf (r : Resolved) (s : BuildSettingModel) (ids : List Id) (ms : List MachineModel) (i : Id) (l : Link) : Type 0 where
  pub edge : Edge
  pub dep : DependencyModel
  pub resolves : Resolves r edge dep
  pub says : LinkSays r s ids ms i l edge dep

-- the links at their places are all such edges of the crate
pub record AreLinksOf (r : Resolved) (s : BuildSettingModel) (ids : List Id) (ms : List MachineModel) (number : ℕ) (i : Id) (links : List Link) : Type 0 where
  pub each : (k : ℕ) (l : Link) → slice_get links k ≡ Some l → IsLinkOf r s ids ms i l
  pub places : (k : ℕ) (l : Link) → slice_get links k ≡ Some l → l.place ≡ record { krate = number; index = k }
  pub all : (e : Edge) (d : DependencyModel) → Resolves r e d → e.parent ≡ i
      → (k : ℕ) × (l : Link) × (slice_get links k ≡ Some l) × LinkSays r s ids ms i l e d

-- ---- what is lacking

-- the entry is of this declared dependency
pub record LackingSays (x : Lacking) (d : DependencyModel) : Type 0 where
  pub declared : dependency_view x.declared.now ≡ d
  pub kind : x.kind ≡ d.kind
  pub name : x.name.now ≡ declared_name d
  pub optional : x.is_optional ≡ d.optional

-- these are the declared dependencies of the crate that the document has no edge for
pub record AreLackingOf (r : Resolved) (number : ℕ) (i : Id) (lacking : List Lacking) : Type 0 where
  pub each : (k : ℕ) (x : Lacking) → slice_get lacking k ≡ Some x → (d : DependencyModel) × LacksEdge r i d × LackingSays x d
  pub places : (k : ℕ) (x : Lacking) → slice_get lacking k ≡ Some x → (x.krate ≡ number) × (x.index ≡ k)
  pub all : (d : DependencyModel) → LacksEdge r i d → (k : ℕ) × (x : Lacking) × (slice_get lacking k ≡ Some x) × LackingSays x d

-- ---- targets

-- the entry is of this target, and decides what the rules ask of it
pub record TargetSays (s : BuildSettingModel) (x : TargetEntry) (t : TargetModel) : Type 0 where
  pub target : target_view x.target.now ≡ t
  pub library : IsTrue x.is_library ↔ IsLibrary t
  pub linkable : IsTrue x.is_linkable ↔ IsLinkable t
  pub script : IsTrue x.is_script ↔ IsScript t
  pub is_macro : IsTrue x.is_macro ↔ IsMacro t
  pub program : IsTrue x.is_program ↔ Contains t.kind Bin
  pub dev : IsTrue x.always_uses_dev ↔ UsesDev t modes.Build
  pub runs : IsTrue x.may_run_programs ↔ RunsPrograms t modes.Test
  pub asked : IsTrue x.is_asked ↔ AsksFor s.kinds t modes.Build
  pub asked_with_tests : IsTrue x.is_asked_with_tests ↔ AsksFor s.kinds t modes.Test
  pub required : map (λ text. text.now) x.required.items ≡ t.required_features

-- these are the targets of the crate, in the order of its package
pub record AreTargetsOf (r : Resolved) (s : BuildSettingModel) (number : ℕ) (i : Id) (targets : List TargetEntry) : Type 0 where
  pub whole : (p : PackageModel) → HasPackage r i p → map (λ x. target_view x.target.now) targets ≡ p.targets
  pub each : (k : ℕ) (x : TargetEntry) → slice_get targets k ≡ Some x → (t : TargetModel) × HasTarget r i t × TargetSays s x t
  pub places : (k : ℕ) (x : TargetEntry) → slice_get targets k ≡ Some x → x.place ≡ record { krate = number; index = k }
  pub all : (t : TargetModel) → HasTarget r i t → (k : ℕ) × (x : TargetEntry) × (slice_get targets k ≡ Some x) × TargetSays s x t

-- ---- crates

-- the references of the crate's feature
abbrev pub references_of : CrateEntry → Text → Option (Vec FeatureReference)
references_of e name = get_by (λ k. slice_cmp nat_cmp name k.now) e.features

-- the entry is of this crate
pub record CrateSays (r : Resolved) (s : BuildSettingModel) (ids : List Id) (ms : List MachineModel) (number : ℕ) (i : Id) (e : CrateEntry) : Type 0 where
  pub number_is : e.number ≡ number
  pub root : IsTrue e.is_root ↔ IsBuildRoot r s i
  pub starts_on_host : IsTrue e.starts_on_host ↔ StartsOn r s i sides.Host
  pub selected : IsTrue e.is_selected ↔ IsSelected r s i
  pub script : IsTrue e.has_script ↔ HasTargetThat r i IsScript
  pub native : IsTrue e.links_natively ↔ LinksNatively r i
  pub requested : (v : Reference) → IsRequested r s i v ↔ Contains (map reference_view e.requested.items) v
  pub features : (f : Text) (v : Reference) → HasReference r i f v
      ↔ (refs : Vec FeatureReference) × (references_of e f ≡ Some refs) × Contains (map reference_view refs.items) v
  pub implied : (c : Text) → (KnowsOptional r i c × HasFeature r i c) ↔ Contains (map (λ t. t.now) e.implied.items) c
  pub links : AreLinksOf r s ids ms number i e.links.items
  pub lacking : AreLackingOf r number i e.lacking.items
  pub targets : AreTargetsOf r s number i e.targets.items

-- ---- the tables

-- The tables are those of the document and the build, where the crates have these ids, and the machines that the build is for are these,
-- by number.
pub record AreTables (r : Resolved) (s : BuildSettingModel) (ids : List Id) (ms : List MachineModel) (t : Tables) : Type 0 where
  pub first : IsTrue t.is_first ↔ IsFirst s.resolver
  pub machines_are : (m : MachineModel) → Contains (machines s.host s.targets) m ↔ Contains ms m
  pub machines_once : HasEachOnce ms
  pub machines_in_order : ComeInOrder (machines s.host s.targets) ms
  pub machines_told : lent_machines t.machines.items ≡ ms
  pub ids_once : HasEachOnce ids
  pub packages : (i : Id) (p : PackageModel) → HasPackage r i p → (number : ℕ) × CrateAt ids number i
  pub roots : (i : Id) → IsBuildRoot r s i → (number : ℕ) × CrateAt ids number i
  pub long : length t.crates.items ≡ length ids
  pub each : (number : ℕ) (i : Id) (e : CrateEntry) → CrateAt ids number i → slice_get t.crates.items number ≡ Some e
      → CrateSays r s ids ms number i e
