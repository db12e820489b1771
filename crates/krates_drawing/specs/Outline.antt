-- What a document's graph is drawn from: exactly what is derivable, and beside each crate, edge and feature what the document says about it.
use Rattle.std.specs.Prelude.{◌≡◌, ◌↔◌, ℕ, All, Bool, Contains, List, [], ◌∷◌, ◌++◌, filter, length, map, if◌then◌else◌}
use Rattle.std.specs.Cmp.Lexicographic.{slice_cmp}
use Rattle.std.specs.List.{AllZip}
use Rattle.std.specs.List.Sorted.{IsStrictlySortedBy}
use Rattle.std.specs.Ordering.{nat_cmp, on, then_cmp}
use Rattle.std.specs.declared.cmp.Ordering.{Ordering}
use Rattle.krates_cm.specs.Document.{Text, DependencyModel, PackageModel, NodeModel}
use Rattle.krates_text.specs.FeatureReference.{Reference, IsReference}
use Rattle.krates_text.specs.FeatureReference as references
use Rattle.krates_text.specs.Texts.{has_text}
use Rattle.krates_rules.specs.Derivation.{Derivable}
use Rattle.krates_rules.specs.Facts.{Id, Edge, Fact, Crate, Feature, Kept, Toggled}
use Rattle.krates_rules.specs.Questions.{questions}
use Rattle.krates_rules.specs.Referent.{AreReferents, id_order}
use Rattle.krates_rules.specs.Resolved.{Resolved, HasPackage, HasNode}
use Rattle.krates_rules.specs.Rules.{default_name}
use Rattle.krates_questions.specs.FeatureTable.{values_of}
use Rattle.krates_selection.specs.Selection.{IsPlacedAs}
use Rattle.krates_rules.specs.Setting.{SettingModel}

-- ---- what is drawn from

-- a kept crate, with the number of its declared dependencies
pub record CrateRow : Type 0 where
  pub id : Id
  pub declared : ℕ

-- a kept edge, with the place of its declared dependency, the first place of its kind and target among those of the node's dependency,
-- and the features that it gives
pub record EdgeRow : Type 0 where
  pub edge : Edge
  pub place : ℕ
  pub first : ℕ
  pub given : List Text

-- what a reference names: a feature of its own crate, crates, or a feature of crates
pub data Meaning : Type 0 where
  OwnFeature : (name : Text) → Meaning
  Crates : (ids : List Id) → Meaning
  FeatureOf : (ids : List Id) (name : Text) → Meaning

-- an enabled feature, with what its references name
pub record FeatureRow : Type 0 where
  pub krate : Id
  pub name : Text
  pub meanings : List Meaning

-- a feature that a feature of another crate enables
pub record Toggle : Type 0 where
  pub by : Id
  pub krate : Id
  pub name : Text

-- what is kept, with what the document says of it
pub record Outline : Type 0 where
  pub krates : List CrateRow
  pub links : List EdgeRow
  pub features : List FeatureRow
  pub toggled : List Toggle

-- ---- what the document says

-- the row has the number of dependencies that the crate's package declares
pub record IsCrateRow (r : Resolved) (k : CrateRow) : Type 0 where
  pub pkg : PackageModel
  pub has_package : HasPackage r k.id pkg
  pub declared : k.declared ≡ length pkg.dependencies

-- the features that a declared dependency asks for: those that it names, in order, then `default` by use
abbrev pub asked_by : DependencyModel → List Text
asked_by d = d.features ++ (if d.uses_default_features then default_name ∷ [] else [])

-- The edge has its places, and of the features that its declared dependency asks for it gives those that the child's node lists.
pub record IsEdgeRow (r : Resolved) (s : SettingModel) (l : EdgeRow) : Type 0 where
  pub placed : IsPlacedAs r s l.edge l.place l.first
  pub node : NodeModel
  pub has_node : HasNode r l.edge.child node
  pub given : l.given ≡ filter (has_text node.features) (asked_by placed.dependency)

-- what a reference of the crate names: by its form, what its names mean
abbrev pub Names : Resolved → Bool → Id → Reference → Meaning → Type 0
Names r all i (references.simple g) (OwnFeature name) = name ≡ g
Names r all i (references.krate d) (Crates ids) = AreReferents r all i d ids
Names r all i (references.strong d g) (FeatureOf ids name) = AreReferents r all i d ids × (name ≡ g)
Names r all i (references.weak d g) (FeatureOf ids name) = AreReferents r all i d ids × (name ≡ g)
Names r all i _ _ = ⊥

-- the text is a reference of the crate, and names this
pub record IsMeaning (r : Resolved) (all : Bool) (i : Id) (text : Text) (m : Meaning) : Type 0 where
  pub reference : Reference
  pub is : IsReference text reference
  pub names : Names r all i reference m

-- the row has what each reference of the feature names, in the package's order
pub record IsFeatureRow (r : Resolved) (all : Bool) (n : FeatureRow) : Type 0 where
  pub pkg : PackageModel
  pub has_package : HasPackage r n.krate pkg
  pub meanings : AllZip (IsMeaning r all n.krate) (values_of pkg.features n.name) n.meanings

-- ---- what is kept

-- all that an outline says is kept, as facts
abbrev pub outlined_facts : Outline → List Fact
outlined_facts t =
    map (λ k. Crate k.id) t.krates
    ++ (map (λ l. Kept l.edge) t.links ++ (map (λ n. Feature n.krate n.name) t.features ++ map (λ g. Toggled g.by g.krate g.name) t.toggled))

-- crates by id
abbrev pub crate_order : CrateRow → CrateRow → Ordering
crate_order = on (λ k. k.id) id_order

-- edges by parent, then child, then the first place of their kind and target
abbrev pub link_order : EdgeRow → EdgeRow → Ordering
link_order = then_cmp (on (λ l. l.edge.parent) id_order) (then_cmp (on (λ l. l.edge.child) id_order) (on (λ l. l.first) nat_cmp))

-- features by crate, then name
abbrev pub enabled_order : FeatureRow → FeatureRow → Ordering
enabled_order = then_cmp (on (λ n. n.krate) id_order) (on (λ n. n.name) (slice_cmp nat_cmp))

-- toggled features by the crate that toggles, then the crate of the feature, then its name
abbrev pub toggle_order : Toggle → Toggle → Ordering
toggle_order = then_cmp (on (λ g. g.by) id_order) (then_cmp (on (λ g. g.krate) id_order) (on (λ g. g.name) (slice_cmp nat_cmp)))

-- The outline has exactly the derivable facts, a crate among them, each list in its order and without doubles, with what the document
-- says of each crate, edge and feature.
pub record IsOutline (r : Resolved) (s : SettingModel) (t : Outline) : Type 0 where
  pub facts : (f : Fact) → Derivable (questions r s) f ↔ Contains (outlined_facts t) f
  pub some : (i : Id) × Derivable (questions r s) (Crate i)
  pub by_id : IsStrictlySortedBy crate_order t.krates
  pub krates : All (IsCrateRow r) t.krates
  pub by_ends : IsStrictlySortedBy link_order t.links
  pub links : All (IsEdgeRow r s) t.links
  pub by_crate : IsStrictlySortedBy enabled_order t.features
  pub features : All (IsFeatureRow r s.all_named) t.features
  pub by_toggling : IsStrictlySortedBy toggle_order t.toggled
