-- Numbered facts by the numbers of the kept crates.
use Rattle.std.specs.Prelude.{◌≡◌, ℕ, ◌<◌, List, All, Contains, length, map}
use Rattle.krates_cm.specs.Document.{NodeModel, Text}
use Rattle.krates_selection.specs.KeptFacts.{AreBelow, uses_in, IsBelow, fact_in, facts_in, steps_in, edge_view, key_view}
use Rattle.krates_selection.specs.declared.key.KeptEdgeKey.{KeptEdgeKey}
use Rattle.krates_selection.specs.declared.key.KeptFactKey.{KeptFactKey}
use Rattle.krates_selection.specs.declared.key.FeatureKey.{FeatureKey}
use Rattle.krates_selection.specs.declared.kept_tables.KeptTables.{KeptTables}
use Rattle.krates_selection.specs.declared.kept.KeptStep.{KeptStep}
use Rattle.krates_ids.specs.Identity.{Identity}
use Rattle.krates_questions.specs.Context.{document_of}
use Rattle.krates_questions.specs.FeatureTable.{FeatureAt}
use Rattle.krates_selection.specs.Selection.{id_at}
use Rattle.krates_selection.specs.Trace.{EdgeAt, HasSomeStep, Names}
use Rattle.krates_selection.specs.declared.trace.NumberedFact.{NumberedFact}
use Rattle.krates_selection.specs.declared.trace.NumberedStep.{NumberedStep}
use Rattle.krates_rules.specs.Facts.{Id, Edge, Fact, Crate, Feature, Kept, Toggled, Lost}
use Rattle.krates_rules.specs.Questions.{questions}
use Rattle.krates_rules.specs.Resolved.{DepAt, HasNode, NodeAt, Resolved, StandsAt}
use Rattle.krates_rules.specs.Setting.{SettingModel}
use Rattle.krates_rules.specs.StepParts.{HaveOwnFacts}
use Rattle.krates_rules.specs.Steps.{EachFollows}
use Rattle.krates_selection.specs.PartOfSteps.{AreBackward}

abbrev pub document_in : KeptTables → Resolved
document_in t = document_of t.context

abbrev pub kids_in : KeptTables → List Identity
kids_in t = t.krates.now

-- ---- what is kept

-- a crate with the id is among these
abbrev pub IsKeptIn : List Identity → Id → Type 0
IsKeptIn kids i = (n : ℕ) × StandsAt kids i n

-- a crate with the id is, and has a node in the document
abbrev pub IsKeptWithNode : Resolved → List Identity → Id → Type 0
IsKeptWithNode r kids i = IsKeptIn kids i × ((n : NodeModel) × HasNode r i n)

-- the crates of the fact are kept, and that to which an edge leads has a node
abbrev pub HasKeptCrates : Resolved → List Identity → Fact → Type 0
HasKeptCrates r kids (Crate i) = IsKeptIn kids i
HasKeptCrates r kids (Feature i f) = IsKeptIn kids i
HasKeptCrates r kids (Kept e) = IsKeptIn kids e.parent × IsKeptWithNode r kids e.child
HasKeptCrates r kids (Toggled by i f) = IsKeptIn kids by × IsKeptIn kids i
HasKeptCrates r kids (Lost c) = ⊥

-- the node of a kept crate is at the place
pub record IsKeptNode (t : KeptTables) (place : ℕ) : Type 0 where
  pub krate : Id
  pub node : NodeAt (document_in t) krate place
  pub kept : IsKeptIn (kids_in t) krate

-- the number is that of a feature of a kept crate
pub record IsKeptFeature (t : KeptTables) (number : ℕ) : Type 0 where
  pub krate : Id
  pub name : Text
  pub at : FeatureAt (document_in t) krate name number
  pub kept : IsKeptIn (kids_in t) krate

-- the dependency at these places leads to a kept crate
pub record IsKeptChild (t : KeptTables) (place index : ℕ) : Type 0 where
  pub parent : Id
  pub child : Id
  pub at : DepAt (document_in t) parent child place index
  pub kept : IsKeptWithNode (document_in t) (kids_in t) child

-- the edge at these places is one between kept crates
pub record IsKeptEdge (t : KeptTables) (place index kind : ℕ) : Type 0 where
  pub edge : Edge
  pub at : EdgeAt (document_in t) edge place index kind
  pub parent : IsKeptIn (kids_in t) edge.parent
  pub child : IsKeptWithNode (document_in t) (kids_in t) edge.child

-- the fact is one about kept crates
pub record IsKeptFact (t : KeptTables) (n : NumberedFact) : Type 0 where
  pub fact : Fact
  pub names : Names (document_in t) n fact
  pub kept : HasKeptCrates (document_in t) (kids_in t) fact

abbrev pub AreKeptFacts : KeptTables → List NumberedStep → Type 0
AreKeptFacts t steps = All (λ (x : NumberedStep). IsKeptFact t x.fact) steps

-- ---- their keys

-- the crate with this number is that of the node at the place
pub record IsNumberAt (t : KeptTables) (place n : ℕ) : Type 0 where
  pub is : (i : Id) → NodeAt (document_in t) i place → id_at (kids_in t) n ≡ i
  pub below : n < length (kids_in t)

-- the crate with this number is that to which the dependency at these places leads
pub record IsChildAt (t : KeptTables) (place index n : ℕ) : Type 0 where
  pub is : (p c : Id) → DepAt (document_in t) p c place index → id_at (kids_in t) n ≡ c
  pub below : n < length (kids_in t)

-- the key is that of the feature of the number
pub record IsFeatureIn (t : KeptTables) (number : ℕ) (k : FeatureKey) : Type 0 where
  pub is : (i : Id) (f : Text) → FeatureAt (document_in t) i f number → (id_at (kids_in t) k.krate ≡ i) × (k.name.now ≡ f)
  pub below : k.krate < length (kids_in t)

-- the key is that of the edge at these places
pub record IsEdgeIn (t : KeptTables) (place index kind : ℕ) (k : KeptEdgeKey) : Type 0 where
  pub is : (e : Edge) → EdgeAt (document_in t) e place index kind → fact_in (kids_in t) (edge_view k) ≡ Kept e
  pub below : IsBelow (length (kids_in t)) (edge_view k)

-- the key is that of the fact
pub record IsKeyOf (t : KeptTables) (n : NumberedFact) (k : KeptFactKey) : Type 0 where
  pub is : (f : Fact) → Names (document_in t) n f → fact_in (kids_in t) (key_view k) ≡ f
  pub below : IsBelow (length (kids_in t)) (key_view k)

-- the facts of steps
abbrev pub numbered_facts : List NumberedStep → List NumberedFact
numbered_facts steps = map (λ (x : NumberedStep). x.fact) steps

-- ---- the kept steps

-- The kept steps follow, each from earlier ones, no fact occurs twice among them, each fact that has a step has one among them, and its crates are numbered.
pub record AreStepsOf (r : Resolved) (s : SettingModel) (kids : List Identity) (trace : List NumberedStep) (steps : List KeptStep) : Type 0 where
  pub below : AreBelow (length kids) steps
  pub backward : AreBackward (uses_in steps)
  pub own : HaveOwnFacts (steps_in kids steps)
  pub follows : EachFollows (questions r s) (steps_in kids steps)
  pub facts : (f : Fact) → HasSomeStep r trace f → Contains (facts_in (steps_in kids steps)) f
