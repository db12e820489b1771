-- Kept edges and toggled features as the search finds them, and the kinds and targets of a dependency.
use Rattle.krates_cm.specs.Document.{dep_kind_info_view, DepKindInfoModel, text_view}
use Rattle.krates_rules.specs.Facts.{Edge, Fact, Toggled}
use Rattle.krates_rules.specs.Questions.{edge_between}
use Rattle.krates_rules.specs.Resolved.{id_of}
use Rattle.krates_selection.specs.Selection.{IsPlacedAs}
use Rattle.krates_search.specs.declared.found.FoundEdge.{FoundEdge}
use Rattle.krates_questions.specs.declared.context.Context.{Context}
use Rattle.krates_questions.specs.Context.{document_of, IsNodeAt}
use Rattle.krates_search.specs.declared.found.FoundToggle.{FoundToggle}
use Rattle.std.specs.Prelude.{◌≡◌, ◌<◌, ℕ, AllPairs, List, Contains, Some, option_map, slice_get}
use Rattle.std.specs.declared.cmp.Ordering.{Ordering}
use Rattle.krates_questions.specs.NodeEntry.{IsFirstInfo}
use Rattle.krates_questions.specs.declared.node_entry.EntryEdge.{EntryEdge}
use Rattle.krates_search.specs.declared.found.KindKey.{KindKey}
use Rattle.krates_rules.specs.DeclaredDependency.{FirstAt}
use Rattle.krates_rules.specs.Kind.{written_of}
use Rattle.krates_search.specs.contracts.found.KindKeyOrd.TheImpl as key_order

-- the edge as the rules speak of it
abbrev pub found_view : FoundEdge → Edge
found_view e = edge_between (id_of e.parent.now) (id_of e.child.now) (dep_kind_info_view e.info.now)

-- the edge names its declared dependency, the first place of its kind and target, and the nodes of its crates
pub record IsFoundEdge (b : Context) (e : FoundEdge) : Type 0 where
  pub placed : IsPlacedAs (document_of b) b.setting.now (found_view e) e.declared e.place
  pub parent : IsNodeAt b (id_of e.parent.now) e.parent_node.index
  pub child : IsNodeAt b (id_of e.child.now) e.child_node.index

-- that a crate toggles the feature
abbrev pub found_toggled : FoundToggle → Fact
found_toggled t = Toggled (id_of t.by.now) (id_of t.krate.now) t.name.now

-- the nodes of its crates are where it says
pub record IsFoundToggle (b : Context) (t : FoundToggle) : Type 0 where
  pub by : IsNodeAt b (id_of t.by.now) t.by_node.index
  pub krate : IsNodeAt b (id_of t.krate.now) t.krate_node.index

-- ---- the kinds and targets of a dependency, each once, and the order of their keys

-- the kind and target of a key
abbrev pub kind_view : KindKey → DepKindInfoModel
kind_view k = record { kind = written_of k.kind; target = option_map text_view k.target.now }

-- the derived order
abbrev pub kind_cmp : KindKey → KindKey → Ordering
kind_cmp = (key_order.ghosts).cmp

-- a kind and target is at the place, and at no earlier one
abbrev pub IsFirstKind : List DepKindInfoModel → ℕ → Type 0
IsFirstKind ks place = (k : DepKindInfoModel) × FirstAt (λ j. j ≡ k) ks place k

-- one of the places has the kind and target
abbrev pub IsAmongPlaces : List DepKindInfoModel → List ℕ → DepKindInfoModel → Type 0
IsAmongPlaces ks places k = (place : ℕ) × Contains places place × (slice_get ks place ≡ Some k)

-- the places are those at which some kind and target comes first, each once and in order, and each kind and target has one
pub record AreFirstKinds (ks : List DepKindInfoModel) (places : List ℕ) : Type 0 where
  pub first : (place : ℕ) → Contains places place → IsFirstKind ks place
  pub each : (k : DepKindInfoModel) → Contains ks k → IsAmongPlaces ks places k
  pub ascending : AllPairs ◌<◌ places

-- the kind and target of the edge comes first at the place
abbrev pub IsFirstOf : EntryEdge → ℕ → Type 0
IsFirstOf x place = IsFirstInfo x.entry.now.dep.now.dep_kinds.items x.info.now place
