-- How nodes are made from what was drawn and from packages.
use Rattle.std.specs.Prelude.{◌≡◌, ◌<◌, ℕ, List, ◌++◌, Option, String, map, ⊤}
use Rattle.std.specs.BTreeSet.{BTreeSet}
use Rattle.std.specs.Global.{Vec}
use Rattle.std.specs.declared.alloc.Global.{Global}
use Rattle.krates_cm.specs.declared.package.Package.{Package}
use Rattle.krates_ids.specs.declared.error.Error.{Error}
use Rattle.krates_ids.specs.declared.error.Error.TheVariants as errors
use Rattle.krates_drawing.specs.declared.division.Krate.{Krate}
use Rattle.krates_drawing.specs.declared.nodes.PlannedFeature.{PlannedFeature}
use Rattle.krates_drawing.specs.declared.node.Node.{Node}
use Rattle.krates_drawing.specs.declared.node.Node.TheVariants as node

abbrev pub Set : Type 0
Set = BTreeSet (String Global)

abbrev pub Mapping : Type 0
Mapping = Vec (Option ℕ)

-- the node of a feature
abbrev pub feature_node : {P : Type 0} → PlannedFeature → Node P
feature_node f = node.Feature f.krate_index f.name

-- the nodes that were drawn: first those of the crates, and then the features
abbrev pub nodes_in : List (Node Package) → List PlannedFeature → List (Node Package)
nodes_in crates features = crates ++ map feature_node features

-- ---- with packages

-- the node of a crate with these features and this mapping
abbrev pub crate_node : Krate × (Set × Mapping) → Node Package
crate_node parts = node.Krate parts.0.id parts.0.pkg parts.1.0 parts.1.1

-- ---- with values instead of packages

-- the node is the same, except for a value that is made from its package
abbrev pub IsMade : {N : Type 0} → (Package → N → Type 0) → Node Package → Node N → Type 0
IsMade made (node.Krate id pkg features mapping) (node.Krate i krate fs m) = (i ≡ id) × (fs ≡ features) × (m ≡ mapping) × made pkg krate
IsMade made (node.Feature krate_index name) (node.Feature k n) = (k ≡ krate_index) × (n ≡ name)
IsMade made _ _ = ⊥

-- why nodes aren't added: there are more than are allowed, or memory runs out
abbrev pub CountRefusal : ℕ → ℕ → Error → Type 0
CountRefusal limit count errors.TooMany = limit < count
CountRefusal limit count errors.Memory = ⊤
CountRefusal limit count _ = ⊥
