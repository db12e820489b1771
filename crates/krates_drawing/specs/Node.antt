-- The nodes of the graph: what they hold, and how they are printed.
use Rattle.std.specs.Prelude.{◌≡◌, ◌==◌, ℕ, ◌++◌, Bool, false, List, [], ◌∷◌, Option, Some, String, codes, map, option_map, slice_get, ⊤}
use Rattle.std.specs.BTreeSet.{BTreeSet}
use Rattle.std.specs.declared.alloc.Global.{Global}
use Rattle.krates_cm.specs.Document.{Text, text_view}
use Rattle.krates_ids.specs.Identity.{Identity}
use Rattle.krates_drawing.specs.declared.node.Node.{Node}
use Rattle.krates_drawing.specs.declared.node.Node.TheVariants.{Krate, Feature}

-- ---- printed

-- `crate ` and the crate as it is printed, if that is stated, or `feature ` and the name
abbrev pub node_text : {N : Type 0} → (N → Option Text) → Node N → Option Text
node_text printed (Krate id krate features mapping) = option_map (λ text. codes "crate " ++ text) (printed krate)
node_text printed (Feature krate_index name) = Some (codes "feature " ++ text_view name)

-- ---- the crates among the nodes

-- the names in a set, in order
abbrev pub names_in : BTreeSet (String Global) → List Text
names_in names = map text_view names.keys

-- their ids
abbrev pub crate_ids : {N : Type 0} → List (Node N) → List Identity
crate_ids [] = []
crate_ids (Krate id krate features mapping ∷ nodes) = id ∷ crate_ids nodes
crate_ids (Feature krate_index name ∷ nodes) = crate_ids nodes

-- what they hold in place of their packages
abbrev pub crate_values : {N : Type 0} → List (Node N) → List N
crate_values [] = []
crate_values (Krate id krate features mapping ∷ nodes) = krate ∷ crate_values nodes
crate_values (Feature krate_index name ∷ nodes) = crate_values nodes

-- the names of the enabled features of each
abbrev pub crate_features : {N : Type 0} → List (Node N) → List (List Text)
crate_features [] = []
crate_features (Krate id krate features mapping ∷ nodes) = names_in features ∷ crate_features nodes
crate_features (Feature krate_index name ∷ nodes) = crate_features nodes

-- no crate comes after a feature, so a crate's number is its place among the crates
abbrev pub CratesFirst : {N : Type 0} → List (Node N) → Type 0
CratesFirst [] = ⊤
CratesFirst (Krate id krate features mapping ∷ nodes) = CratesFirst nodes
CratesFirst (Feature krate_index name ∷ nodes) = crate_ids nodes ≡ []

-- ---- the features among the nodes

-- whether the node is that of a feature of the crate of this number
abbrev pub is_own_feature : {N : Type 0} → ℕ → Node N → Bool
is_own_feature number (Krate id krate features mapping) = false
is_own_feature number (Feature krate_index name) = krate_index == number

-- the number of the crate and the name of each
abbrev pub feature_names : {N : Type 0} → List (Node N) → List (ℕ × Text)
feature_names [] = []
feature_names (Krate id krate features mapping ∷ nodes) = feature_names nodes
feature_names (Feature krate_index name ∷ nodes) = (krate_index, text_view name) ∷ feature_names nodes

-- the node is that of the feature of this name of the crate of this number
abbrev pub IsFeature : {N : Type 0} → ℕ → Text → Node N → Type 0
IsFeature number name (Krate id krate features mapping) = ⊥
IsFeature number name (Feature krate_index text) = (krate_index ≡ number) × (text_view text ≡ name)

-- there is such a node at `n`
pub record IsFeatureAt {N : Type 0} (nodes : List (Node N)) (n number : ℕ) (name : Text) : Type 0 where
  pub node : Node N
  pub at : slice_get nodes n ≡ Some node
  pub is : IsFeature number name node
