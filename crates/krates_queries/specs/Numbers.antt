-- Nodes found by an id or by the name of a feature: how nodes compare with these, and which numbers they have; and the id of a node.
use Rattle.std.specs.Prelude.{ℕ, ◌≡◌, List, Option, Some, None, slice_get}
use Rattle.std.specs.Cmp.Lexicographic.{slice_cmp}
use Rattle.std.specs.Ordering.{nat_cmp, ordering_then}
use Rattle.std.specs.declared.cmp.Ordering.{Ordering}
use Rattle.std.specs.declared.cmp.Ordering.TheVariants.{Less, Greater}
use Rattle.krates_cm.specs.Document.{Text, text_view}
use Rattle.krates_ids.specs.Identity.{Identity, id_cmp}
use Rattle.krates_drawing.specs.declared.node.Node.{Node}
use Rattle.krates_drawing.specs.declared.node.Node.TheVariants.{Krate, Feature}
use Rattle.krates_rules.specs.Facts.{Id}
use Rattle.krates_rules.specs.Resolved.{StandsAt}
use Rattle.krates_drawing.specs.Node.{IsFeatureAt, crate_ids}
use Rattle.krates_queries.specs.Direct.{home}

-- a crate by its own id, and a feature after every crate
abbrev pub node_cmp : {N : Type 0} → Node N → Identity → Ordering
node_cmp (Krate id krate features mapping) kid = id_cmp id kid
node_cmp (Feature krate_index name) kid = Greater

-- a feature by the number of its crate and then by its name, and a crate before every feature
abbrev pub feature_cmp : {N : Type 0} → Node N → ℕ → Text → Ordering
feature_cmp (Krate id krate features mapping) number name = Less
feature_cmp (Feature krate_index text) number name = ordering_then (nat_cmp krate_index number) (slice_cmp nat_cmp (text_view text) name)

-- ---- the id of a node's crate

-- the id of a crate
abbrev pub id_in : {N : Type 0} → Option (Node N) → Option Identity
id_in None = None
id_in (Some (Krate id krate features mapping)) = Some id
id_in (Some (Feature krate_index name)) = None

-- the id of a node's crate: of a crate its own, and of a feature that of the crate that has it; none where there is no node
abbrev pub kid_at : {N : Type 0} → List (Node N) → ℕ → Option Identity
kid_at nodes n = id_in (slice_get nodes (home nodes n))

-- ---- their numbers

-- `n` is the number of the node of the crate with this number, or, if a feature is named, of the feature's node
abbrev pub IsNumberIn : {N : Type 0} → List (Node N) → ℕ → Option Text → ℕ → Type 0
IsNumberIn nodes number None n = n ≡ number
IsNumberIn nodes number (Some name) n = IsFeatureAt nodes n number name

-- the same for the crate with this id
pub record IsNumberFor {N : Type 0} (nodes : List (Node N)) (id : Id) (feature : Option Text) (n : ℕ) : Type 0 where
  pub number : ℕ
  pub stands : StandsAt (crate_ids nodes) id number
  pub is : IsNumberIn nodes number feature n
