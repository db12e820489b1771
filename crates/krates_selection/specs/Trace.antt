-- The steps by which facts are found, in numbers, and when they are a derivation.
use Rattle.std.specs.Prelude.{◌≡◌, ℕ, List, Some, None, slice_get}
use Rattle.std.specs.List.{AllZip}
use Rattle.krates_cm.specs.Document.{Text}
use Rattle.krates_questions.specs.FeatureTable.{FeatureAt}
use Rattle.krates_selection.specs.declared.trace.NumberedFact.{NumberedFact}
use Rattle.krates_selection.specs.declared.trace.NumberedFact.TheVariants as numbered
use Rattle.krates_selection.specs.declared.trace.NumberedStep.{NumberedStep}
use Rattle.krates_selection.specs.declared.trace.Reason.{Reason}
use Rattle.krates_rules.specs.Facts.{Id, Edge, Fact, Crate, Feature, Kept, Toggled}
use Rattle.krates_rules.specs.Questions.{kind_info_of, questions}
use Rattle.krates_rules.specs.Resolved.{DepAt, NodeAt, Resolved}
use Rattle.krates_rules.specs.Rules.{Rule}
use Rattle.krates_rules.specs.Setting.{SettingModel}
use Rattle.krates_rules.specs.Steps.{EachFollows, StepModel}
use Rattle.krates_rules.specs.Uses.{numbers_used}

-- ---- reasons

-- the rule, and the steps whose facts are its premises
abbrev pub by_nothing : ℕ → Reason
by_nothing rule = record { rule = rule; uses = record { first = None; second = None } }

abbrev pub by_one : ℕ → ℕ → Reason
by_one rule first = record { rule = rule; uses = record { first = Some first; second = None } }

abbrev pub by_two : ℕ → ℕ → ℕ → Reason
by_two rule first second = record { rule = rule; uses = record { first = Some first; second = Some second } }

-- ---- facts

-- the edge is that of the kind and target at this place of the dependency, at those places of the node
pub record EdgeAt (r : Resolved) (e : Edge) (place index kind : ℕ) : Type 0 where
  pub dep : DepAt r e.parent e.child place index
  pub here : slice_get dep.dep.dep_kinds kind ≡ Some (kind_info_of e)

-- the fact is that the crate of the node at the place is kept
pub record NamesCrate (r : Resolved) (place : ℕ) (f : Fact) : Type 0 where
  pub krate : Id
  pub node : NodeAt r krate place
  pub is : f ≡ Crate krate

-- that the feature of the number is enabled
pub record NamesFeature (r : Resolved) (number : ℕ) (f : Fact) : Type 0 where
  pub krate : Id
  pub name : Text
  pub at : FeatureAt r krate name number
  pub is : f ≡ Feature krate name

-- that the edge at these places is kept
pub record NamesKept (r : Resolved) (place index kind : ℕ) (f : Fact) : Type 0 where
  pub edge : Edge
  pub at : EdgeAt r edge place index kind
  pub is : f ≡ Kept edge

-- that a feature of the crate of the node at the place enables the feature of the number
pub record NamesToggled (r : Resolved) (place number : ℕ) (f : Fact) : Type 0 where
  pub by : Id
  pub krate : Id
  pub name : Text
  pub node : NodeAt r by place
  pub at : FeatureAt r krate name number
  pub is : f ≡ Toggled by krate name

-- the fact has these numbers in the document
abbrev pub Names : Resolved → NumberedFact → Fact → Type 0
Names r (numbered.Crate place) f = NamesCrate r place.index f
Names r (numbered.Feature number) f = NamesFeature r number f
Names r (numbered.Kept place index kind) f = NamesKept r place.index index kind f
Names r (numbered.Toggled place number) f = NamesToggled r place.index number f

-- ---- steps

-- the step with this number has the fact
pub record HasStep (r : Resolved) (trace : List NumberedStep) (number : ℕ) (f : Fact) : Type 0 where
  pub step : NumberedStep
  pub at : slice_get trace number ≡ Some step
  pub names : Names r step.fact f

-- some step has it
abbrev pub HasSomeStep : Resolved → List NumberedStep → Fact → Type 0
HasSomeStep r trace f = (number : ℕ) × HasStep r trace number f

-- for this reason the fact follows from these steps: by the rule from the facts of the steps that it names, in order
pub record MayFind (r : Resolved) (s : SettingModel) (trace : List NumberedStep) (reason : Reason) (f : Fact) : Type 0 where
  pub premises : List Fact
  pub uses : AllZip (HasStep r trace) (numbers_used reason.uses) premises
  pub rule : Rule (questions r s) reason.rule premises f

-- a step of a derivation has these numbers in the document
pub record IsShown (r : Resolved) (x : NumberedStep) (step : StepModel) : Type 0 where
  pub fact : Names r x.fact step.fact
  pub rule : step.rule ≡ x.reason.rule
  pub uses : step.uses ≡ numbers_used x.reason.uses

-- the steps are a derivation, in numbers of the document: each follows from earlier ones
pub record IsTrace (r : Resolved) (s : SettingModel) (trace : List NumberedStep) : Type 0 where
  pub steps : List StepModel
  pub shown : AllZip (IsShown r) trace steps
  pub follows : EachFollows (questions r s) steps
