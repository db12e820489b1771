-- What a build keeps of a document, what it reports, and why it is refused.
--
-- Which crates are kept is said by derivations alone: by what the document and the setting answer the rules.
use Rattle.std.specs.Prelude.{ℕ, ◌≡◌, ◌⊎◌, ◌↔◌, ◌<◌, ◌≤◌, ◌^◌, List, Option, Some, map, Contains, length, ⊤}
use Rattle.std.specs.List.{AllZip, FoldsTo}
use Rattle.std.specs.List.Sorted.{IsStrictlyIncreasing}
use Rattle.krates_cm.specs.Document.{MetadataModel, NodeModel, ResolveModel, Text, VersionModel, metadata_view, text_view}
use Rattle.krates_cm.specs.Names.{version_named}
use Rattle.krates_cm.specs.declared.metadata.Metadata.{Metadata}
use Rattle.krates_cm.specs.declared.package.Package.{Package}
use Rattle.krates_drawing.specs.Agreement.{DependsOn, OneEach}
use Rattle.krates_drawing.specs.Drawing.{planned_edges, planned_nodes}
use Rattle.krates_drawing.specs.Node.{crate_ids}
use Rattle.krates_drawing.specs.Outline.{Outline}
use Rattle.krates_drawing.specs.WorkOfOutline.{work_of}
use Rattle.krates_drawing.specs.declared.edge.Edge.{Edge}
use Rattle.krates_drawing.specs.declared.node.Node.{Node}
use Rattle.krates_graph.specs.Graph.{StoredGraph}
use Rattle.krates_ids.specs.Identity.{Identity, Reads}
use Rattle.krates_ids.specs.declared.error.Error.{Error}
use Rattle.krates_ids.specs.declared.error.Error.TheVariants as errors
use Rattle.krates_rules.specs.Admission.{IsDoubled, StandsForId, dep_texts}
use Rattle.krates_rules.specs.AdmissionRefusals.{AdmissionRefusal}
use Rattle.krates_rules.specs.Facts.{Id, Cause, Crate, Feature, Lost}
use Rattle.krates_rules.specs.Resolution.{IsDerived, RefusesSelection}
use Rattle.krates_rules.specs.Resolved.{HasGraphWith, IsMember, StandsAt, id_of, resolved}
use Rattle.krates_rules.specs.Setting.{SettingModel}
use Rattle.krates.specs.Indexed.{Answering, Sees}
use Rattle.krates_drawing.specs.Listed.{AreThosePackages}
use Rattle.krates_queries.specs.Why.{IsExplainedBy, steps_of}
use Rattle.krates_queries.specs.Direct.{IsDependent}
use Rattle.krates_queries.specs.Drawn.{IsDrawn, IsNumbered, IsOutlineFor, planned_node}
use Rattle.krates_queries.specs.Kept.{KeptCrates, HasEnabled, ids_of, values_of}

-- ---- the document

-- the document can be resolved: it has a resolved graph, each text that must be an id is read as one, a dependency's as one
-- with a semantic version, and no id is doubled
pub record IsResolvable (m : MetadataModel) : Type 0 where
  pub graph : ResolveModel
  pub has_graph : m.resolve ≡ Some graph
  pub read : (t : Text) → StandsForId m graph t → (i : Identity) × Reads t i
  pub versions : (n : NodeModel) (t : Text) → Contains graph.nodes n → Contains (dep_texts n) t → (i : Identity) × Reads t i × ((v : VersionModel) × (version_named i.version ≡ Some v))
  pub none_doubled : (id : Id) → IsDoubled m graph id → ⊥

-- the crate has to be kept
abbrev pub KeepsCrate : MetadataModel → SettingModel → Id → Type 0
KeepsCrate m s i = IsDerived m s (Crate i)

-- the crate isn't derivable
abbrev pub DropsCrate : MetadataModel → SettingModel → Id → Type 0
DropsCrate m s i = KeepsCrate m s i → ⊥

-- ---- the packages

-- The filter was called with each package of the document that isn't kept, once, in the order of their ids, and with no
-- other: the states at entry and exit are the two ends of that run.
pub record IsReported {F : Type 0} (filters : F → Package → F → Type 0) (m : Metadata) (s : SettingModel) (before after : F) : Type 0 where
  pub ids : List Identity
  pub others : List Package
  pub not_kept : AreThosePackages m.packages.items (DropsCrate (metadata_view m) s) ids others
  pub run : FoldsTo filters before others after

-- The values are made, place by place, of exactly the packages whose id is one of those.
pub record AreMadeOfThose {N : Type 0} (made : Package → N → Type 0) (all : List Package) (P : Id → Type 0) (ids : List Identity) (values : List N) : Type 0 where
  pub packages : List Package
  pub those : AreThosePackages all P ids packages
  pub made_of : AllZip made packages values

-- ---- the members of the workspace

-- the kept crate with this number is a member
pub record IsMemberAt (m : MetadataModel) (ids : List Identity) (n : ℕ) : Type 0 where
  pub member : Id
  pub listed : HasGraphWith m (λ g. IsMember (resolved m g) member)
  pub kept : StandsAt ids member n

-- the numbers of exactly the kept members, ascending, each once even if the document lists one twice
pub record AreKeptMembers (m : MetadataModel) (ids : List Identity) (numbers : List ℕ) : Type 0 where
  pub ascending : IsStrictlyIncreasing numbers
  pub exactly : (n : ℕ) → Contains numbers n ↔ IsMemberAt m ids n

-- ---- direct dependencies and dependents

-- no two crates have kept edges of this one with one declared dependency
abbrev pub HasOneEach : MetadataModel → SettingModel → Id → Type 0
HasOneEach m s i = HasGraphWith m (λ g. OneEach (resolved m g) s i)

-- number d is among the direct dependencies of p exactly if p is among the direct dependents of d
abbrev pub AgreeDirectly : {N E : Type 0} → StoredGraph (Node N) E → ℕ → ℕ → Type 0
AgreeDirectly g p d = DependsOn (map planned_node g.nodes) p d ↔ IsDependent g.nodes g.edges d p

-- Where no two crates come by one declared dependency of a kept crate, it depends directly on exactly those kept crates that have
-- it as a direct dependent.
abbrev pub DependentsAgree : {N E : Type 0} → MetadataModel → SettingModel → StoredGraph (Node N) E → Type 0
DependentsAgree m s g = (i : Id) → HasOneEach m s i → (p d : ℕ) → StandsAt (crate_ids g.nodes) i p → d < length (crate_ids g.nodes) → AgreeDirectly g p d

-- ---- what is built

-- All that is true of what a build keeps of a document, and of what it reports.
pub record IsBuilt {F N E : Type 0} (filters : F → Package → F → Type 0) (made : Package → N → Type 0) (made_edge : Edge → E → Type 0) (m : Metadata) (s : SettingModel) (before after : F) (k : KeptCrates N E) : Type 0 where
  pub resolvable : IsResolvable (metadata_view m)
  pub kept : (i : Id) → KeepsCrate (metadata_view m) s i ↔ Contains (map id_of (ids_of k)) i  -- and no other crates
  pub some : (i : Id) × KeepsCrate (metadata_view m) s i
  pub none_lost : (c : Cause) → IsDerived (metadata_view m) s (Lost c) → ⊥
  pub values : AreMadeOfThose made m.packages.items (KeepsCrate (metadata_view m) s) (ids_of k) (values_of k)
  pub enabled : (i : Id) (f : Text) → IsDerived (metadata_view m) s (Feature i f) ↔ HasEnabled k i f
  pub drawn : IsDrawn made_edge (metadata_view m) s k.graph  -- number by number
  pub agree : DependentsAgree (metadata_view m) s k.graph  -- direct dependencies and direct dependents
  pub members : AreKeptMembers (metadata_view m) (ids_of k) k.members
  pub numbered : IsNumbered k.graph
  pub root : k.workspace_root ≡ text_view m.workspace_root
  pub work : k.work ≡ work_of drawn.outline  -- how much was kept, as it was counted
  pub reported : IsReported filters m s before after
  pub explained : IsExplainedBy (metadata_view m) s (steps_of k)  -- by the kept steps

-- ---- refusals

-- More nodes or more edges are drawn than can be numbered. Since there is an outline, nothing is lost and some crate is kept.
pub record HasTooMany (m : MetadataModel) (s : SettingModel) : Type 0 where
  pub outline : Outline
  pub is_outline : IsOutlineFor m s outline
  pub many : (2 ^ 32 ≤ length (planned_nodes outline)) ⊎ (2 ^ 32 ≤ length (planned_edges outline))

-- why nothing is built from a document that can be resolved: too much is drawn, or nothing is selected; memory may always run out
abbrev pub GraphRefusal : MetadataModel → SettingModel → Error → Type 0
GraphRefusal m s errors.TooMany = HasTooMany m s
GraphRefusal m s errors.Memory = ⊤
GraphRefusal m s e = RefusesSelection m s e

-- The document can't be resolved as it is given, for this cause; or it can, but nothing is built from it as it is resolved, for this
-- cause. So a cause of the first kind counts before one of the second; memory may always run out.
abbrev pub BuildRefusal : {S : Type 0} → Answering S → Option S → Metadata → SettingModel → Error → Type 0
BuildRefusal may_answer index m s e = AdmissionRefusal (metadata_view m) e
    ⊎ (IsResolvable (metadata_view m) × Sees may_answer index m (λ seen. GraphRefusal (metadata_view seen) s e))

-- the same for a build that is given `m` and resolves `p`
abbrev pub IsRefusedSeeing : Metadata → Metadata → SettingModel → Error → Type 0
IsRefusedSeeing m p s e = AdmissionRefusal (metadata_view m) e ⊎ (IsResolvable (metadata_view m) × GraphRefusal (metadata_view p) s e)

-- the same without an index, where the document is resolved as it is given
abbrev pub BuildRefusalAsGiven : Metadata → SettingModel → Error → Type 0
BuildRefusalAsGiven m s e = IsRefusedSeeing m m s e
