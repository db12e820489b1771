-- Facts and steps by the numbers of the kept crates, and what they say for crates with these ids.
use Rattle.std.specs.Prelude.{ℕ, ◌<◌, List, Option, map, option_map, ◌≡◌, ◌↔◌, All, None, Some, length, slice_get, ◌+◌, Contains, MatchOption}
use Rattle.krates_cm.specs.Document.{Text, text_view}
use Rattle.krates_cm.specs.declared.dependency.DependencyKind.{DependencyKind}
use Rattle.krates_rules.specs.Kind.{written_of}
use Rattle.krates_selection.specs.declared.kept.KeptFact.{KeptFact}
use Rattle.krates_selection.specs.declared.kept.KeptFact.TheVariants as kept
use Rattle.krates_selection.specs.declared.kept.KeptStep.{KeptStep}
use Rattle.krates_selection.specs.declared.kept.CrateOrFeature.{CrateOrFeature}
use Rattle.krates_selection.specs.declared.kept.CrateOrFeature.TheVariants as subjects
use Rattle.krates_ids.specs.Identity.{Identity}
use Rattle.krates_selection.specs.Selection.{id_at}
use Rattle.krates_rules.specs.Facts.{Edge, Fact, Crate, Feature, Kept, Toggled}
use Rattle.krates_rules.specs.Steps.{StepModel, EachFollows, EndsIn, IsAccepted}
use Rattle.krates_rules.specs.Uses.{numbers_used}
use Rattle.std.specs.BTreeMap.{BTreeMap, get}
use Rattle.std.specs.declared.cmp.Ordering.{Ordering}
use Rattle.krates_selection.specs.contracts.key.KeptFactKeyOrd.TheImpl as key_order
use Rattle.krates_selection.specs.declared.key.KeptEdgeKey.{KeptEdgeKey}
use Rattle.krates_selection.specs.declared.key.KeptFactKey.{KeptFactKey}
use Rattle.krates_selection.specs.declared.key.KeptFactKey.TheVariants as keys
use Rattle.krates_selection.specs.PartOfSteps.{SameFact, AreBackward}
use Rattle.krates_selection.specs.declared.trace.NumberedStep.{NumberedStep}
use Rattle.krates_rules.specs.declared.uses.Uses.{Uses}
use Rattle.krates_rules.specs.StepViews.{steps_view}
use Rattle.krates_rules.specs.declared.derivation.Fact.{Fact as ToldFact}
use Rattle.krates_rules.specs.declared.derivation.Fact.TheVariants as told
use Rattle.krates_rules.specs.declared.derivation.Step.{Step}
use Rattle.krates_selection.specs.declared.kept.Explanation.{Explanation}
use Rattle.krates_document.specs.CrateTable.{lent_to}
use Rattle.krates_rules.specs.Questions.{questions}
use Rattle.krates_rules.specs.Resolved.{Resolved}
use Rattle.krates_rules.specs.Setting.{SettingModel}
use Rattle.krates_rules.specs.StepParts.{HaveOwnFacts, IsUsedLater}

-- a fact, with crates by number
pub data KeptModel : Type 0 where
  KeepsCrate : (krate : ℕ) → KeptModel
  Enables : (krate : ℕ) (name : Text) → KeptModel
  KeepsEdge : (parent child : ℕ) (kind : DependencyKind) (cfg : Option Text) → KeptModel
  Toggles : (by krate : ℕ) (name : Text) → KeptModel

-- a fact as it is stored, as clauses see it
abbrev pub kept_view : KeptFact → KeptModel
kept_view (kept.Crate krate) = KeepsCrate krate
kept_view (kept.Feature krate name) = Enables krate (text_view name)
kept_view (kept.Kept parent child kind cfg) = KeepsEdge parent child (written_of kind) (option_map text_view cfg)
kept_view (kept.Toggled by krate name) = Toggles by krate (text_view name)

-- that the crate is kept, or the feature enabled
abbrev pub subject_view : CrateOrFeature → KeptModel
subject_view (subjects.Crate krate) = KeepsCrate krate
subject_view (subjects.Feature krate name) = Enables krate name.now

-- its crates have numbers below this one
abbrev pub IsBelow : ℕ → KeptModel → Type 0
IsBelow n (KeepsCrate krate) = krate < n
IsBelow n (Enables krate name) = krate < n
IsBelow n (KeepsEdge parent child kind cfg) = (parent < n) × (child < n)
IsBelow n (Toggles by krate name) = (by < n) × (krate < n)

-- ---- what they say

-- the edge between the crates of these numbers, for crates with these ids
abbrev pub edge_in : List Identity → ℕ → ℕ → DependencyKind → Option Text → Edge
edge_in kids parent child kind cfg = record { parent = id_at kids parent; child = id_at kids child; kind = kind; cfg = cfg }

-- the fact, for crates with these ids
abbrev pub fact_in : List Identity → KeptModel → Fact
fact_in kids (KeepsCrate krate) = Crate (id_at kids krate)
fact_in kids (Enables krate name) = Feature (id_at kids krate) name
fact_in kids (KeepsEdge parent child kind cfg) = Kept (edge_in kids parent child kind cfg)
fact_in kids (Toggles by krate name) = Toggled (id_at kids by) (id_at kids krate) name

-- the step, for crates with these ids
abbrev pub step_in : List Identity → KeptStep → StepModel
step_in kids x = record { rule = x.rule; fact = fact_in kids (kept_view x.fact); uses = numbers_used x.uses }

-- the steps, for crates with these ids
abbrev pub steps_in : List Identity → List KeptStep → List StepModel
steps_in kids steps = map (step_in kids) steps

-- the facts of steps
abbrev pub facts_in : List StepModel → List Fact
facts_in steps = map (λ (x : StepModel). x.fact) steps

-- ---- facts as keys of a map

-- the edge
abbrev pub edge_view : KeptEdgeKey → KeptModel
edge_view e = KeepsEdge e.parent e.child (written_of e.kind) (option_map text_view e.cfg.now)

-- the fact
abbrev pub key_view : KeptFactKey → KeptModel
key_view (keys.Crate krate) = KeepsCrate krate
key_view (keys.Feature feature) = Enables feature.krate feature.name.now
key_view (keys.Kept edge) = edge_view edge
key_view (keys.Toggled toggle) = Toggles toggle.by toggle.feature.krate toggle.feature.name.now

-- the derived order
abbrev pub key_cmp : KeptFactKey → KeptFactKey → Ordering
key_cmp = (key_order.ghosts).cmp

-- the number of the crate among whose facts the fact is looked for
abbrev pub home : KeptModel → ℕ
home (KeepsCrate krate) = krate
home (Enables krate name) = krate
home (KeepsEdge parent child kind cfg) = parent
home (Toggles by krate name) = by

-- for each of so many crates there is no place of a fact
pub record AreNoPlaces (count : ℕ) (homes : List (BTreeMap KeptFactKey ℕ)) : Type 0 where
  pub long : length homes ≡ count
  pub none : All (λ (m : BTreeMap KeptFactKey ℕ). (q : KeptFactKey) → get key_cmp m q ≡ None) homes

-- ---- numbers of facts

-- The same facts have the same numbers, and no others.
pub record AreFactNumbers (all : List KeptModel) (numbers : List ℕ) : Type 0 where
  pub long : length numbers ≡ length all
  pub low : All (λ n. n < length all) numbers
  pub same : (j k : ℕ) (f g : KeptModel) → slice_get all j ≡ Some f → slice_get all k ≡ Some g → SameFact numbers j k ↔ (f ≡ g)

-- ---- steps that are chosen one by one

-- the step has the fact of the key and the rule at this place, and uses these steps
pub record IsChosenAt (keys : List KeptFactKey) (steps : List NumberedStep) (number : ℕ) (uses : Uses) (x : KeptStep) : Type 0 where
  pub key : KeptFactKey
  pub key_at : slice_get keys number ≡ Some key
  pub fact : kept_view x.fact ≡ key_view key
  pub step : NumberedStep
  pub step_at : slice_get steps number ≡ Some step
  pub rule : x.rule ≡ step.reason.rule
  pub uses_is : x.uses ≡ uses

-- the step at this place is the chosen one
pub record IsChosenIn (keys : List KeptFactKey) (steps : List NumberedStep) (chosen : List ℕ) (part : List Uses) (place : ℕ) (x : KeptStep) : Type 0 where
  pub number : ℕ
  pub chosen_at : slice_get chosen place ≡ Some number
  pub uses : Uses
  pub uses_at : slice_get part place ≡ Some uses
  pub is : IsChosenAt keys steps number uses x

-- these are the chosen steps
pub record AreChosen (keys : List KeptFactKey) (steps : List NumberedStep) (chosen : List ℕ) (part : List Uses) (kept : List KeptStep) : Type 0 where
  pub long : length kept ≡ length chosen
  pub each : (place : ℕ) (x : KeptStep) → slice_get kept place ≡ Some x → IsChosenIn keys steps chosen part place x

-- ---- the kept steps, and the derivation of one fact

-- what each step uses
abbrev pub uses_in : List KeptStep → List Uses
uses_in steps = map (λ (x : KeptStep). x.uses) steps

-- the ids of an explanation's crates, by number
abbrev pub kids_of : Explanation → List Identity
kids_of e = lent_to e.kids.now

-- its steps
abbrev pub explained_steps : Explanation → List StepModel
explained_steps e = steps_in (kids_of e) e.steps.now

-- the crates of each fact are numbered
abbrev pub AreBelow : ℕ → List KeptStep → Type 0
AreBelow n steps = All (λ (x : KeptStep). IsBelow n (kept_view x.fact)) steps

-- The crates are numbered, and each step uses earlier ones.
pub record IsExplanation (e : Explanation) : Type 0 where
  pub below : AreBelow (length (kids_of e)) e.steps.now
  pub backward : AreBackward (uses_in e.steps.now)

-- the number of the step with this fact
pub record IsStepOf (steps : List KeptStep) (f : KeptModel) (number : ℕ) : Type 0 where
  pub step : KeptStep
  pub at : slice_get steps number ≡ Some step
  pub says : kept_view step.fact ≡ f

abbrev pub TellsStep : List KeptStep → KeptModel → Option ℕ → Type 0
TellsStep steps f answer = MatchOption answer (All (λ (x : KeptStep). kept_view x.fact ≡ f → ⊥) steps) (IsStepOf steps f)

-- ---- derivations, with ids

-- the ids in the fact are among these, with their texts
abbrev pub HasTheseIds : List Identity → ToldFact → Type 0
HasTheseIds kids (told.Crate krate) = Contains kids krate
HasTheseIds kids (told.Feature krate name) = Contains kids krate
HasTheseIds kids (told.Kept parent child kind cfg) = Contains kids parent × Contains kids child
HasTheseIds kids (told.Toggled parent child name) = Contains kids parent × Contains kids child

-- The steps are a derivation of the fact of this step, by steps of the explanation: no fact occurs twice where none does in the explanation, each but the last
-- is used by a later one, and where the explanation's steps follow, these are accepted.
pub record IsDerivationOf (e : Explanation) (number : ℕ) (steps : List Step) : Type 0 where
  pub ends : (x : StepModel) → slice_get (explained_steps e) number ≡ Some x → EndsIn (steps_view steps) x.fact
  pub own : HaveOwnFacts (explained_steps e) → HaveOwnFacts (steps_view steps)
  pub used : (k : ℕ) → k + 1 < length steps → IsUsedLater (steps_view steps) k
  pub accepted : (r : Resolved) (s : SettingModel) → EachFollows (questions r s) (explained_steps e) → IsAccepted (questions r s) (steps_view steps)
  pub ids : All (λ (x : Step). HasTheseIds (kids_of e) x.fact) steps
