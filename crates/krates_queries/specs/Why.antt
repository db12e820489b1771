-- The steps by which a build keeps what it keeps, and the derivation of a node.
use Rattle.std.specs.Prelude.{◌≡◌, ◌↔◌, ℕ, List, Contains, Some, length, slice_get, ◌≤◌, ◌<◌, ◌+◌, All, MatchOption, Option}
use Rattle.krates_cm.specs.Document.{MetadataModel, text_view}
use Rattle.krates_selection.specs.KeptFacts.{AreBelow, IsStepOf, uses_in, Enables, KeepsCrate, KeptModel, facts_in, steps_in, HasTheseIds}
use Rattle.krates_selection.specs.declared.kept.KeptStep.{KeptStep}
use Rattle.krates_ids.specs.Identity.{Identity}
use Rattle.krates_rules.specs.Facts.{Fact, Crate as CrateFact, Feature as FeatureFact}
use Rattle.krates_rules.specs.Questions.{questions}
use Rattle.krates_rules.specs.Resolution.{IsDerived}
use Rattle.krates_rules.specs.Resolved.{HasGraphWith, resolved, Resolved, id_of}
use Rattle.krates_rules.specs.Setting.{SettingModel}
use Rattle.krates_rules.specs.StepParts.{HaveOwnFacts, IsUsedLater}
use Rattle.krates_rules.specs.Steps.{EachFollows, StepModel, EndsIn, IsAccepted}
use Rattle.krates_selection.specs.PartOfSteps.{AreBackward}
use Rattle.krates_queries.specs.Kept.{KeptCrates, ids_of}
use Rattle.krates_drawing.specs.Node.{crate_ids}
use Rattle.krates_drawing.specs.declared.node.Node.{Node}
use Rattle.krates_drawing.specs.declared.node.Node.TheVariants.{Krate, Feature}
use Rattle.krates_rules.specs.StepViews.{steps_view}
use Rattle.krates_rules.specs.declared.derivation.Derivation.{Derivation}
use Rattle.krates_rules.specs.declared.derivation.Step.{Step}
use Rattle.krates_selection.specs.Selection.{id_at}

-- the steps that a build keeps
abbrev pub steps_of : {N E : Type 0} → KeptCrates N E → List StepModel
steps_of k = steps_in (ids_of k) k.steps

-- The steps follow, by what the document and the setting answer, and their facts are exactly the derivable ones.
pub record IsExplainedBy (m : MetadataModel) (s : SettingModel) (steps : List StepModel) : Type 0 where
  pub follows : HasGraphWith m (λ g. EachFollows (questions (resolved m g) s) steps)
  pub facts : (f : Fact) → IsDerived m s f ↔ Contains (facts_in steps) f

-- ---- what holds of every build

-- what the node with a number says: that its crate is kept, or its feature enabled
abbrev pub node_says : {N : Type 0} → ℕ → Node N → KeptModel
node_says n (Krate id krate features mapping) = KeepsCrate n
node_says n (Feature krate_index name) = Enables krate_index (text_view name)

-- a step says so
abbrev pub HasStepOf : List KeptStep → KeptModel → Type 0
HasStepOf steps f = (number : ℕ) × IsStepOf steps f number

-- The steps are about these crates, use earlier ones, and have no fact twice; and each node has a step that says what it says.
pub record AreExplained {N : Type 0} (nodes : List (Node N)) (steps : List KeptStep) : Type 0 where
  pub below : AreBelow (length (crate_ids nodes)) steps
  pub backward : AreBackward (uses_in steps)
  pub own : HaveOwnFacts (steps_in (crate_ids nodes) steps)
  pub each : (n : ℕ) (node : Node N) → slice_get nodes n ≡ Some node → HasStepOf steps (node_says n node)

-- the same for the steps of a selection whose crates have these ids
pub record AreStepsFor (m : MetadataModel) (s : SettingModel) (kids : List Identity) (steps : List KeptStep) : Type 0 where
  pub below : AreBelow (length kids) steps
  pub backward : AreBackward (uses_in steps)
  pub own : HaveOwnFacts (steps_in kids steps)
  pub explained : IsExplainedBy m s (steps_in kids steps)

-- ---- the derivation of a node

-- that the crate of the node is kept, or its feature enabled
abbrev pub node_fact : {N : Type 0} → List Identity → Node N → Fact
node_fact ids (Krate id krate features mapping) = CrateFact (id_of id)
node_fact ids (Feature krate_index name) = FeatureFact (id_at ids krate_index) (text_view name)

-- The steps are a derivation of what the node says. No fact occurs twice, each step but the last is used by a later one, their ids are those of the kept
-- crates, and where all kept steps follow, as those of a build do, these are accepted.
pub record IsWhy {N E : Type 0} (k : KeptCrates N E) (n : ℕ) (steps : List Step) : Type 0 where
  pub node : Node N
  pub at : slice_get k.graph.nodes n ≡ Some node
  pub ends : EndsIn (steps_view steps) (node_fact (ids_of k) node)
  pub own : HaveOwnFacts (steps_view steps)
  pub used : (j : ℕ) → j + 1 < length steps → IsUsedLater (steps_view steps) j
  pub accepted : (r : Resolved) (s : SettingModel) → EachFollows (questions r s) (steps_of k) → IsAccepted (questions r s) (steps_view steps)
  pub ids : All (λ (x : Step). HasTheseIds (ids_of k) x.fact) steps

-- the derivation of the node, or none if there is no such node
abbrev pub TellsWhy : {N E : Type 0} → KeptCrates N E → ℕ → Option Derivation → Type 0
TellsWhy k n answer = MatchOption answer (length k.graph.nodes ≤ n) (λ d. IsWhy k n d.steps.items)
