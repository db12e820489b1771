-- What the calls of a search require and promise of its state and of the steps in it.
use Rattle.krates_questions.specs.Context.{document_of, Derives, IsNodeAt, IsFeatureAt, Lists, Wants, IsDepAt}
use Rattle.krates_cm.specs.Document.{DependencyModel, Text, node_dep_view}
use Rattle.krates_search.specs.SearchState.{HasTriedEach, HasFound, HasStepOf, IsAny, WaitsOrIsToggled, HasToggled, HasTried}
use Rattle.krates_questions.specs.NodeEntry.{child_of, parent_of}
use Rattle.krates_selection.specs.Trace.{MayFind, Names, HasStep}
use Rattle.krates_questions.specs.declared.context.Context.{Context}
use Rattle.krates_search.specs.declared.enabling.KeptNode.{KeptNode}
use Rattle.krates_search.specs.declared.search_state.SearchState.{SearchState}
use Rattle.krates_questions.specs.declared.node_entry.NodeEntry.{NodeEntry}
use Rattle.krates_questions.specs.declared.availability.Availability.{Availability}
use Rattle.krates_questions.specs.Availability.{IsAvailability}
use Rattle.krates_selection.specs.declared.trace.NumberedStep.{NumberedStep}
use Rattle.krates_selection.specs.declared.trace.Reason.{Reason}
use Rattle.krates_rules.specs.Facts.{Crate, Edge, Fact, Feature, Id, Kept, Toggled}
use Rattle.krates_rules.specs.NamedIds.{IsReadOf}
use Rattle.krates_rules.specs.Questions.{Stands}
use Rattle.krates_rules.specs.Resolved.{id_of}
use Rattle.krates_rules.specs.Rules.{default_name}
use Rattle.krates_questions.specs.FeatureTable.{IsOwn}
use Rattle.krates_ids.specs.Identity.{Identity}
use Rattle.std.specs.Prelude.{◌≡◌, Contains, ℕ, true, List}
use Rattle.krates_text.specs.FeatureReference.{IsReference, Reference}
use Rattle.krates_rules.specs.Features.{HasReference}

-- the crate of a node
abbrev pub crate_of : KeptNode → Id
crate_of node = id_of node.id.now

-- a feature may be enabled, or is, where the crate lists it
abbrev pub MayEnableListed : Context → Id → Text → Type 0
MayEnableListed b i f = Lists b i f → Derives b (Feature i f)

abbrev pub HasListed : Context → SearchState → Id → Text → Type 0
HasListed b x i f = Lists b i f → HasFound b x (Feature i f)

-- each edge of an entry has been tried
abbrev pub HasTriedEntry : Context → SearchState → NodeEntry → (DependencyModel → Type 0) → Type 0
HasTriedEntry b x entry = HasTriedEach b x (parent_of entry) (child_of entry) (node_dep_view entry.dep.now)

-- the answer is true of the crate that the dependency leads to
abbrev pub HasAvailability : Context → NodeEntry → Availability → Type 0
HasAvailability b entry = IsAvailability (document_of b) b.setting.now (child_of entry)

-- the id is read from the document
abbrev pub IsRead : Context → Identity → Type 0
IsRead b = IsReadOf (document_of b)

-- the node of a kept crate is at its place, and its id is read from the document
pub record IsNodeOf (b : Context) (node : KeptNode) : Type 0 where
  pub at : IsNodeAt b (crate_of node) node.place.index
  pub read : IsRead b node.id.now

-- ---- steps

-- for this reason the fact follows from the steps
abbrev pub Finds : Context → SearchState → Reason → Fact → Type 0
Finds b x = MayFind (document_of b) b.setting.now x.trace.items

-- so does the feature, if the crate lists it
abbrev pub FindsListed : Context → SearchState → Reason → Id → Text → Type 0
FindsListed b x reason i f = Lists b i f → Finds b x reason (Feature i f)

-- it also follows that the feature is toggled
abbrev pub FindsToggled : Context → SearchState → Reason → Id → Id → Text → Type 0
FindsToggled b x reason p c g = Lists b c g → Finds b x reason (Toggled p c g)

-- so does each feature that the declared dependency asks for
pub record FindsUsed (b : Context) (x : SearchState) (reason : Reason) (d : DependencyModel) (child : Id) : Type 0 where
  pub declared : (g : Text) → Contains d.features g → FindsListed b x reason child g
  pub by_default : d.uses_default_features ≡ true → FindsListed b x reason child default_name

-- so does the edge, if it is wanted as a dependency that is taken and its child stands
abbrev pub FindsEdge : Context → SearchState → Reason → Edge → (DependencyModel → Type 0) → Type 0
FindsEdge b x reason e taken =
    (d : DependencyModel) → Wants b e d → taken d → Stands (document_of b) b.setting.now e.child → Finds b x reason (Kept e)

-- ---- what is put with its step

-- the number is the own number of the crate's feature
abbrev pub IsNumberOf : Context → Id → Text → ℕ → Type 0
IsNumberOf b i f number = IsFeatureAt b i f number × IsOwn (document_of b) number

-- the fact of the step follows
pub record MayPutStep (b : Context) (x : SearchState) (step : NumberedStep) : Type 0 where
  pub fact : Fact
  pub names : Names (document_of b) step.fact fact
  pub finds : Finds b x step.reason fact

-- the step has this number, whatever its fact is
abbrev pub HasPutStep : Context → SearchState → NumberedStep → ℕ → Type 0
HasPutStep b x step number = (f : Fact) → Names (document_of b) step.fact f → HasStepOf b x number f

-- a crate whose node is at the place follows
pub record MayPutKrate (b : Context) (x : SearchState) (place : ℕ) (reason : Reason) : Type 0 where
  pub krate : Id
  pub node : IsNodeAt b krate place
  pub finds : Finds b x reason (Crate krate)

-- a feature of a kept crate has the number that follows
pub record MayPutFeature (b : Context) (x : SearchState) (number : ℕ) (reason : Reason) : Type 0 where
  pub krate : Id
  pub name : Text
  pub number_of : IsNumberOf b krate name number
  pub kept : HasFound b x (Crate krate)
  pub finds : Finds b x reason (Feature krate name)

-- ---- what a reference of an enabled feature may give

-- an enabled feature of the crate has the reference
pub record HasEnabledReference (b : Context) (p : Id) (reference : Reference) : Type 0 where
  pub feature : Text
  pub enabled : Derives b (Feature p feature)
  pub refers : HasReference (document_of b) p feature reference

-- the step is that of a feature of the crate that has the reference
pub record IsReferringStep (b : Context) (trace : List NumberedStep) (step : ℕ) (p : Id) (reference : Reference) : Type 0 where
  pub feature : Text
  pub found : HasStep (document_of b) trace step (Feature p feature)
  pub refers : HasReference (document_of b) p feature reference

-- that has the text for a reference
pub record IsValueStep (b : Context) (trace : List NumberedStep) (step : ℕ) (p : Id) (text : Text) : Type 0 where
  pub feature : Text
  pub found : HasStep (document_of b) trace step (Feature p feature)
  pub refers : (reference : Reference) → IsReference text reference → HasReference (document_of b) p feature reference

-- each edge by the dependency at these places has been tried
abbrev pub IsAskedAt : Context → SearchState → Id → ℕ → ℕ → Type 0
IsAskedAt b x p place index = (e : Edge) → e.parent ≡ p → IsDepAt b p e.child place index → HasTried b x e IsAny

-- where an edge by that dependency may be kept, the feature is toggled
abbrev pub IsToggledStronglyAt : Context → SearchState → Id → ℕ → ℕ → Text → Type 0
IsToggledStronglyAt b x p place index g =
    (e : Edge) (d : DependencyModel) → e.parent ≡ p → IsDepAt b p e.child place index → Wants b e d → Stands (document_of b) b.setting.now e.child → HasToggled b x p e.child g

-- the feature of that dependency waits for a kept edge, or is toggled
abbrev pub IsWaitingAt : Context → SearchState → Id → ℕ → ℕ → Text → Type 0
IsWaitingAt b x p place index g = (child : Id) → IsDepAt b p child place index → WaitsOrIsToggled b x p child place index g
