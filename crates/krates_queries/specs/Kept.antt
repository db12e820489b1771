-- The crates that a build keeps, as clauses see them.
use Rattle.std.specs.Prelude.{◌≡◌, ◌↔◌, ℕ, ⊤, ◌+◌, ◌<◌, ◌≤◌, ◌^◌, ◌++◌, [], ◌∷◌, List, All, Contains, Some, String, length, map, slice_get}
use Rattle.std.specs.BTreeSet.{BTreeSet}
use Rattle.std.specs.Cmp.Lexicographic.{slice_cmp}
use Rattle.std.specs.List.Sorted.{IsStrictlyIncreasing, IsStrictlySortedBy}
use Rattle.std.specs.Ordering.{nat_cmp, ordering_then}
use Rattle.std.specs.declared.alloc.Global.{Global}
use Rattle.std.specs.declared.cmp.Ordering.{Ordering}
use Rattle.krates_cm.specs.Document.{Text}
use Rattle.krates_selection.specs.declared.kept.KeptStep.{KeptStep}
use Rattle.krates_graph.specs.Graph.{StoredGraph}
use Rattle.krates_ids.specs.Identity.{Identity, id_cmp}
use Rattle.krates_rules.specs.Facts.{Id, Fact}
use Rattle.krates_rules.specs.Facts as facts
use Rattle.krates_rules.specs.Resolved.{StandsAt, id_of}
use Rattle.krates_selection.specs.declared.work.Work.{Work}
use Rattle.krates_drawing.specs.Node.{crate_ids, crate_values, crate_features, CratesFirst, feature_names, names_in}
use Rattle.krates_drawing.specs.declared.node.Node.{Node}
use Rattle.krates_drawing.specs.declared.node.Node.TheVariants.{Krate, Feature}

-- the graph, the numbers of the members of the workspace, its path, how much work it was, and why all of that is kept
pub record KeptCrates (N E : Type 0) : Type 0 where
  pub graph : StoredGraph (Node N) E
  pub members : List ℕ
  pub workspace_root : Text
  pub work : Work
  pub steps : List KeptStep

-- the ids of the kept crates
abbrev pub ids_of : {N E : Type 0} → KeptCrates N E → List Identity
ids_of k = crate_ids k.graph.nodes

-- the values held for their packages
abbrev pub values_of : {N E : Type 0} → KeptCrates N E → List N
values_of k = crate_values k.graph.nodes

-- the names of the enabled features of each
abbrev pub features_of : {N E : Type 0} → KeptCrates N E → List (List Text)
features_of k = crate_features k.graph.nodes

-- the ids ascend, each once, and there are not more than can be numbered
pub record AreOrdered (ids : List Identity) : Type 0 where
  pub ascending : IsStrictlySortedBy id_cmp ids
  pub numbered : length ids < 2 ^ 32

-- the order by the number of the crate and then by name
abbrev pub feature_order : ℕ × Text → ℕ × Text → Ordering
feature_order a b = ordering_then (nat_cmp a.0 b.0) (slice_cmp nat_cmp a.1 b.1)

-- the name is among those at this place
pub record IsNameAt (features : List (List Text)) (n : ℕ) (name : Text) : Type 0 where
  pub names : List Text
  pub at : slice_get features n ≡ Some names
  pub among : Contains names name

-- the features are in order, and exactly those that the crates have enabled
pub record AreFeatures {N : Type 0} (nodes : List (Node N)) : Type 0 where
  pub ascending : IsStrictlySortedBy feature_order (feature_names nodes)
  pub exactly : (n : ℕ) (name : Text) → Contains (feature_names nodes) (n, name) ↔ IsNameAt (crate_features nodes) n name

-- the crates are sorted and come before the features, which are sorted too; there are not more nodes than can be numbered
pub record AreNodes {N : Type 0} (nodes : List (Node N)) : Type 0 where
  pub ordered : AreOrdered (crate_ids nodes)
  pub first : CratesFirst nodes
  pub features : AreFeatures nodes
  pub numbered : length nodes < 2 ^ 32

-- the numbers ascend, and each is that of a crate
pub record AreCrateNumbers {N : Type 0} (nodes : List (Node N)) (numbers : List ℕ) : Type 0 where
  pub ascending : IsStrictlyIncreasing numbers
  pub crates : All (λ n. n < length (crate_ids nodes)) numbers

-- ---- where the features of each crate stand

-- the node is a crate, or a feature of a crate with a lower number
abbrev pub StandsBefore : {N : Type 0} → ℕ → Node N → Type 0
StandsBefore number (Krate id krate features mapping) = ⊤
StandsBefore number (Feature krate_index name) = krate_index < number

-- exactly the first n nodes are crates and features of crates with a lower number
pub record IsStart {N : Type 0} (nodes : List (Node N)) (number n : ℕ) : Type 0 where
  pub within : n ≤ length nodes
  pub exactly : (k : ℕ) (node : Node N) → slice_get nodes k ≡ Some node → (k < n) ↔ StandsBefore number node

-- for each crate, where its features begin, and for the number behind the last crate, where they all end
pub record AreStarts {N : Type 0} (nodes : List (Node N)) (starts : List ℕ) : Type 0 where
  pub counted : length starts ≡ length (crate_ids nodes) + 1
  pub each : (p n : ℕ) → slice_get starts p ≡ Some n → IsStart nodes p n

-- ---- enabled features

-- the enabled features of the crates among the nodes, as facts
abbrev pub enabled_facts : {N : Type 0} → List (Node N) → List Fact
enabled_facts [] = []
enabled_facts (Krate id krate features mapping ∷ nodes) = map (facts.Feature (id_of id)) (names_in features) ++ enabled_facts nodes
enabled_facts (Feature krate_index name ∷ nodes) = enabled_facts nodes

-- the feature of this name of the crate with this id is enabled
abbrev pub HasEnabled : {N E : Type 0} → KeptCrates N E → Id → Text → Type 0
HasEnabled k id name = Contains (enabled_facts k.graph.nodes) (facts.Feature id name)

-- the names in each of these sets
abbrev pub names_in_each : List (BTreeSet (String Global)) → List (List Text)
names_in_each sets = map names_in sets

-- the crate with this id is one of those with these ids, and these are the names of its features
pub record HasFeatures (ids : List Identity) (features : List (List Text)) (id : Id) (names : List Text) : Type 0 where
  pub place : ℕ
  pub stands : StandsAt ids id place
  pub at : slice_get features place ≡ Some names

-- the feature of this name is among those of the crate with this id
pub record IsEnabledIn (ids : List Identity) (features : List (List Text)) (id : Id) (name : Text) : Type 0 where
  pub names : List Text
  pub theirs : HasFeatures ids features id names
  pub among : Contains names name

-- ---- one crate

-- no kept crate has the id
abbrev pub IsNotKept : {N E : Type 0} → KeptCrates N E → Id → Type 0
IsNotKept k id = (n : ℕ) → StandsAt (ids_of k) id n → ⊥

-- the node is that of the kept crate with this id
pub record IsNodeOf {N E : Type 0} (k : KeptCrates N E) (id : Id) (node : Node N) : Type 0 where
  pub number : ℕ
  pub stands : StandsAt (ids_of k) id number
  pub at : slice_get k.graph.nodes number ≡ Some node
