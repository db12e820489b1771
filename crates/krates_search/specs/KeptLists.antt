-- Kept edges, enabled features and toggled features as a selection has them: with the numbers of their crates, and in order.
use Rattle.std.specs.Prelude.{◌≡◌, ◌↔◌, List, All, Contains, length, map, ℕ}
use Rattle.std.specs.List.Sorted.{IsStrictlySortedBy, IsPermutation}
use Rattle.krates_ids.specs.Identity.{Identity}
use Rattle.krates_rules.specs.Facts.{Edge, Id, Feature, Fact}
use Rattle.krates_rules.specs.Resolved.{id_of}
use Rattle.krates_selection.specs.Selection.{HasEnds, IsPlaced, edge_view, place_cmp, HasHome, id_at, feature_fact, feature_cmp, same_feature, HasCrates, toggled_fact, toggled_cmp}
use Rattle.krates_search.specs.Found.{found_view, found_toggled}
use Rattle.krates_selection.specs.KeptTables.{IsKeptIn}
use Rattle.krates_search.specs.declared.found.FoundEdge.{FoundEdge}
use Rattle.krates_selection.specs.declared.selection.KeptEdge.{KeptEdge}
use Rattle.krates_questions.specs.declared.context.Context.{Context}
use Rattle.krates_questions.specs.Context.{document_of, IsNodeAt, IsFeatureAt}
use Rattle.std.specs.List.{AllZip, IsDistinct}
use Rattle.krates_cm.specs.Document.{Text, text_view}
use Rattle.krates_selection.specs.declared.selection.EnabledFeature.{EnabledFeature}
use Rattle.krates_search.specs.SearchState.{IsEnabled}
use Rattle.krates_search.specs.declared.found.FoundToggle.{FoundToggle}
use Rattle.krates_selection.specs.declared.selection.ToggledFeature.{ToggledFeature}

-- ---- edges

-- the nodes of its crates, which are kept, are where the edge says
pub record HasKeptNodes (b : Context) (kids : List Identity) (e : FoundEdge) : Type 0 where
  pub parent : IsNodeAt b (id_of e.parent.now) e.parent_node.index
  pub child : IsNodeAt b (id_of e.child.now) e.child_node.index
  pub parent_kept : IsKeptIn kids (id_of e.parent.now)
  pub child_kept : IsKeptIn kids (id_of e.child.now)

-- the kept edge says what the found one does
pub record IsCopyOf (kids : List Identity) (e : FoundEdge) (k : KeptEdge) : Type 0 where
  pub edge : edge_view kids k ≡ found_view e
  pub ends : HasEnds (length kids) k
  pub place : k.place ≡ e.place
  pub declared : k.declared ≡ e.declared

-- the kept edges are the found ones, in order, each once
pub record AreInOrder (b : Context) (kids : List Identity) (found : List FoundEdge) (kept : List KeptEdge) : Type 0 where
  pub same : (e : Edge) → Contains (map found_view found) e ↔ Contains (map (edge_view kids) kept) e
  pub ascending : IsStrictlySortedBy place_cmp kept
  pub ends : All (HasEnds (length kids)) kept
  pub placed : All (IsPlaced (document_of b) b.setting.now kids) kept

-- ---- features

-- the feature of the number is one of a kept crate
pub record HasKeptHome (b : Context) (kids : List Identity) (number : ℕ) : Type 0 where
  pub krate : Id
  pub name : Text
  pub at : IsFeatureAt b krate name number
  pub kept : IsKeptIn kids krate

-- the feature is that of the number
pub record IsFeatureOf (b : Context) (kids : List Identity) (number : ℕ) (f : EnabledFeature) : Type 0 where
  pub at : IsFeatureAt b (id_at kids f.krate) (text_view f.name) number
  pub home : HasHome (length kids) f

-- the features are those of the numbers, in order, each once
pub record AreSorted (b : Context) (kids : List Identity) (found : List ℕ) (kept : List EnabledFeature) : Type 0 where
  pub each : (i : Id) (f : Text) → IsEnabled b found i f ↔ Contains (map (feature_fact kids) kept) (Feature i f)
  pub enabled : List EnabledFeature
  pub numbered : AllZip (IsFeatureOf b kids) found enabled
  pub whole : IsDistinct same_feature enabled → IsPermutation enabled kept
  pub homes : All (HasHome (length kids)) kept
  pub ascending : IsStrictlySortedBy feature_cmp kept

-- ---- toggled features

-- the nodes of its crates, which are kept, are where it says
pub record HasKeptCrates (b : Context) (kids : List Identity) (t : FoundToggle) : Type 0 where
  pub by : IsNodeAt b (id_of t.by.now) t.by_node.index
  pub krate : IsNodeAt b (id_of t.krate.now) t.krate_node.index
  pub by_kept : IsKeptIn kids (id_of t.by.now)
  pub krate_kept : IsKeptIn kids (id_of t.krate.now)

-- the kept one says what the found one does
pub record IsToggleCopy (kids : List Identity) (t : FoundToggle) (k : ToggledFeature) : Type 0 where
  pub fact : toggled_fact kids k ≡ found_toggled t
  pub crates : HasCrates (length kids) k

-- the kept ones are those that were found, in order, each once
pub record AreToggled (kids : List Identity) (found : List FoundToggle) (kept : List ToggledFeature) : Type 0 where
  pub same : (f : Fact) → Contains (map found_toggled found) f ↔ Contains (map (toggled_fact kids) kept) f
  pub ascending : IsStrictlySortedBy toggled_cmp kept
  pub crates : All (HasCrates (length kids)) kept
