-- What has been found during the search for a selection.
use Rattle.std.specs.Prelude.{◌≡◌, ℕ, Bool, List, ◌⊎◌, All, Some, false, true, Contains, length, map, slice_get, ⊤}
use Rattle.std.specs.List.{AllZip}
use Rattle.krates_cm.specs.Document.{Text, DependencyModel, DepKindInfoModel, NodeDepModel}
use Rattle.krates_text.specs.FeatureReference.{Reference, krate, weak, strong, simple, IsReference}
use Rattle.krates_rules.specs.Facts.{Id, Edge, LostPackage, LostNode, LostFeature, Undeclared, Fact, Crate, Feature, Kept, Toggled, Lost}
use Rattle.krates_rules.specs.Features.{LacksFeature, HasReference}
use Rattle.krates_rules.specs.Resolved.{NoPackage}
use Rattle.krates_search.specs.Links.{HasLinks, IsMarked, IsWaiter, IsMarkedBy, WasAsked, Waits}
use Rattle.krates_selection.specs.Trace.{HasSomeStep, HasStep, IsTrace}
use Rattle.krates_questions.specs.Availability.{AreExclusions}
use Rattle.krates_rules.specs.Questions.{edge_between, Stands, LacksNode, IsLoose}
use Rattle.krates_questions.specs.FeatureTable.{listed_features, IsOwn}
use Rattle.krates_rules.specs.Referent.{IsReferent}
use Rattle.krates_rules.specs.Rules.{default_name}
use Rattle.krates_search.specs.Found.{found_view, IsFoundEdge, found_toggled, IsFoundToggle}
use Rattle.krates_search.specs.declared.search_state.SearchState.{SearchState}
use Rattle.krates_search.specs.declared.links.Waiting.{Waiting}
use Rattle.krates_selection.specs.declared.trace.NumberedStep.{NumberedStep}
use Rattle.krates_search.specs.declared.found.FoundEdge.{FoundEdge}
use Rattle.krates_search.specs.declared.found.FoundToggle.{FoundToggle}
use Rattle.krates_questions.specs.declared.context.Context.{Context}
use Rattle.krates_questions.specs.Context.{document_of, Derives, IsNodeAt, IsDepAt, IsFeatureAt, Lists, HasRoot, Wants}

-- ---- which facts have been found

-- the place of the crate's node is among these
pub record IsPut (b : Context) (put : List ℕ) (i : Id) : Type 0 where
  pub place : ℕ
  pub among : Contains put place
  pub node : IsNodeAt b i place

-- a number of the crate's feature is among these
pub record IsEnabled (b : Context) (put : List ℕ) (i : Id) (f : Text) : Type 0 where
  pub number : ℕ
  pub among : Contains put number
  pub at : IsFeatureAt b i f number

-- what is kept of a document: places of nodes, numbers of features, edges and toggled features
pub record Findings : Type 0 where
  pub krates : List ℕ
  pub features : List ℕ
  pub edges : List FoundEdge
  pub toggled : List FoundToggle

abbrev pub IsAmongFindings : Context → Findings → Fact → Type 0
IsAmongFindings b x (Crate i) = IsPut b x.krates i
IsAmongFindings b x (Feature i f) = IsEnabled b x.features i f
IsAmongFindings b x (Kept e) = Contains (map found_view x.edges) e
IsAmongFindings b x (Toggled p c g) = Contains (map found_toggled x.toggled) (Toggled p c g)
IsAmongFindings b x _ = ⊥

abbrev pub findings : SearchState → Findings
findings x = record { krates = x.krates.put; features = x.features.put; edges = x.edges.items; toggled = x.toggled.items }

-- the fact has been found
abbrev pub HasFound : Context → SearchState → Fact → Type 0
HasFound b x f = IsAmongFindings b (findings x) f

-- ---- what was found from a crate, an edge, a feature or a reference

-- the feature is enabled, which its crate has to list
pub record HasEnabled (b : Context) (x : SearchState) (i : Id) (f : Text) : Type 0 where
  pub enabled : Lists b i f → HasFound b x (Feature i f)
  pub listed : LacksFeature (document_of b) i f → ⊥

-- the feature of the child is toggled, which the child has to list
pub record HasToggled (b : Context) (x : SearchState) (parent child : Id) (f : Text) : Type 0 where
  pub toggled : Lists b child f → HasFound b x (Toggled parent child f)
  pub listed : LacksFeature (document_of b) child f → ⊥

-- the features that a declared dependency asks for
pub record HasEnabledFor (b : Context) (x : SearchState) (d : DependencyModel) (child : Id) : Type 0 where
  pub declared : (g : Text) → Contains d.features g → HasEnabled b x child g
  pub by_default : d.uses_default_features ≡ true → Lists b child default_name → HasFound b x (Feature child default_name)

-- what a kept edge gives: the features that its declared dependency asks for
abbrev pub IsUsed : Context → SearchState → Edge → Type 0
IsUsed b x e = (d : DependencyModel) → Wants b e d → HasEnabledFor b x d e.child

-- a dependency that isn't optional, or any
abbrev pub IsRequired : DependencyModel → Type 0
IsRequired d = d.optional ≡ false

abbrev pub IsAny : DependencyModel → Type 0
IsAny d = ⊤

-- any if it is asked for, otherwise one that isn't optional
abbrev pub TakenWhen : Bool → DependencyModel → Type 0
TakenWhen true = IsAny
TakenWhen false = IsRequired

-- The edge is kept where it is wanted as a dependency that is taken and its child stands; nothing of that is lost, and it
-- isn't undeclared.
pub record HasTried (b : Context) (x : SearchState) (e : Edge) (taken : DependencyModel → Type 0) : Type 0 where
  pub kept : (d : DependencyModel) → Wants b e d → taken d → Stands (document_of b) b.setting.now e.child → HasFound b x (Kept e)
  pub has_package : (d : DependencyModel) → Wants b e d → taken d → NoPackage (document_of b) e.child → ⊥
  pub has_node : (d : DependencyModel) → Wants b e d → taken d → LacksNode (document_of b) b.setting.now e.child → ⊥
  pub declared : IsLoose (document_of b) b.setting.now e → ⊥

-- all that an enabled feature gives that asks for the dependency of this name
abbrev pub IsAsked : Context → SearchState → Id → Text → Type 0
IsAsked b x p name = (e : Edge) → e.parent ≡ p → IsReferent (document_of b) b.setting.now.all_named p name e.child → HasTried b x e IsAny

-- where an edge to the dependency of this name may be kept, the feature is toggled
abbrev pub IsToggledStrongly : Context → SearchState → Id → Text → Text → Type 0
IsToggledStrongly b x p name g =
    (e : Edge) (d : DependencyModel) → e.parent ≡ p → IsReferent (document_of b) b.setting.now.all_named p name e.child → Wants b e d → Stands (document_of b) b.setting.now e.child → HasToggled b x p e.child g

-- the feature of the dependency waits for a kept edge, or is toggled
abbrev pub WaitsOrIsToggled : Context → SearchState → Id → Id → ℕ → ℕ → Text → Type 0
WaitsOrIsToggled b x p child place index g = Waits x.links place index g ⊎ HasToggled b x p child g

-- and so the feature of the dependency of this name
abbrev pub IsWaiting : Context → SearchState → Id → Text → Text → Type 0
IsWaiting b x p name g =
    (child : Id) (place index : ℕ) → IsReferent (document_of b) b.setting.now.all_named p name child → IsDepAt b p child place index → WaitsOrIsToggled b x p child place index g

-- all that a reference of an enabled feature gives
abbrev pub HasFollowed : Context → SearchState → Id → Reference → Type 0
HasFollowed b x p (simple g) = HasEnabled b x p g
HasFollowed b x p (krate name) = IsAsked b x p name
HasFollowed b x p (strong name g) = IsAsked b x p name × IsToggledStrongly b x p name g
HasFollowed b x p (weak name g) = IsWaiting b x p name g

-- all that an enabled feature gives
abbrev pub HasFollowedReferences : Context → SearchState → Id → Text → Type 0
HasFollowedReferences b x p f = (reference : Reference) → HasReference (document_of b) p f reference → HasFollowed b x p reference

-- all that a root gives
pub record HasRooted (b : Context) (x : SearchState) (i : Id) : Type 0 where
  pub kept : Stands (document_of b) b.setting.now i → HasFound b x (Crate i)
  pub enabled : Stands (document_of b) b.setting.now i → (f : Text) → Lists b i f → HasFound b x (Feature i f)
  pub has_package : NoPackage (document_of b) i → ⊥
  pub has_node : LacksNode (document_of b) b.setting.now i → ⊥

-- ---- what the rules allow

-- what keeping the edge gives is derivable, and what is lost by it
pub record MayTry (b : Context) (e : Edge) (taken : DependencyModel → Type 0) : Type 0 where
  pub kept : (d : DependencyModel) → Wants b e d → taken d → Stands (document_of b) b.setting.now e.child → Derives b (Kept e)
  pub has_package : (d : DependencyModel) → Wants b e d → taken d → NoPackage (document_of b) e.child → Derives b (Lost (LostPackage e.child))
  pub has_node : (d : DependencyModel) → Wants b e d → taken d → LacksNode (document_of b) b.setting.now e.child → Derives b (Lost (LostNode e.child))
  pub declared : IsLoose (document_of b) b.setting.now e → Derives b (Lost (Undeclared e.parent e.child))

-- the feature may be enabled where it is listed, and is lost where it isn't
pub record MayEnable (b : Context) (i : Id) (f : Text) : Type 0 where
  pub enabled : Lists b i f → Derives b (Feature i f)
  pub listed : LacksFeature (document_of b) i f → Derives b (Lost (LostFeature i f))

pub record MayToggle (b : Context) (parent child : Id) (f : Text) : Type 0 where
  pub toggled : Lists b child f → Derives b (Toggled parent child f)
  pub listed : LacksFeature (document_of b) child f → Derives b (Lost (LostFeature child f))

-- what a declared dependency asks of its crate
pub record MayEnableFor (b : Context) (d : DependencyModel) (child : Id) : Type 0 where
  pub declared : (g : Text) → Contains d.features g → MayEnable b child g
  pub by_default : d.uses_default_features ≡ true → Lists b child default_name → Derives b (Feature child default_name)

-- the text is a reference of an enabled feature of the crate
pub record IsValueOfEnabled (b : Context) (p : Id) (text : Text) : Type 0 where
  pub feature : Text
  pub enabled : Derives b (Feature p feature)
  pub refers : (reference : Reference) → IsReference text reference → HasReference (document_of b) p feature reference

-- ---- what has its step

-- the step with this number has the fact
abbrev pub HasStepOf : Context → SearchState → ℕ → Fact → Type 0
HasStepOf b x = HasStep (document_of b) x.trace.items

-- the step is that of the crate at the place, and of the feature of the number
abbrev pub IsKrateStep : Context → List NumberedStep → ℕ → ℕ → Type 0
IsKrateStep b trace place step = (i : Id) → IsNodeAt b i place → HasStep (document_of b) trace step (Crate i)

abbrev pub IsFeatureStep : Context → List NumberedStep → ℕ → ℕ → Type 0
IsFeatureStep b trace number step = (i : Id) (f : Text) → IsFeatureAt b i f number → HasStep (document_of b) trace step (Feature i f)

-- it is that of an edge between the crates
abbrev pub IsEdgeStep : Context → List NumberedStep → Id → Id → ℕ → Type 0
IsEdgeStep b trace p child step = (k : DepKindInfoModel) × HasStep (document_of b) trace step (Kept (edge_between p child k))

-- it is that of a feature with a weak reference that names the feature of the child
pub record IsAskingStep (b : Context) (trace : List NumberedStep) (p child : Id) (g : Text) (step : ℕ) : Type 0 where
  pub feature : Text
  pub found : HasStep (document_of b) trace step (Feature p feature)
  pub name : Text
  pub refers : HasReference (document_of b) p feature (weak name g)
  pub referent : IsReferent (document_of b) b.setting.now.all_named p name child

-- the numbers are those of the steps of what was put, is marked and waits
pub record HaveTheirSteps (b : Context) (x : SearchState) : Type 0 where
  pub krates : AllZip (IsKrateStep b x.trace.items) x.krates.put x.krate_steps.items
  pub features : AllZip (IsFeatureStep b x.trace.items) x.features.put x.feature_steps.items
  pub marked : (p child : Id) (place index step : ℕ) → IsDepAt b p child place index → IsMarkedBy x.links place index step → IsEdgeStep b x.trace.items p child step
  pub waiting : (p child : Id) (place index : ℕ) (w : Waiting) → IsDepAt b p child place index → IsWaiter x.links place index w → IsAskingStep b x.trace.items p child w.name.now w.step

-- ---- what has been found is right

-- all that has been found is derivable, and what follows from kept edges, toggled and enabled features alone is in it
pub record IsSound (b : Context) (x : SearchState) : Type 0 where
  -- it is known which packages are excluded
  pub excluded : AreExclusions (document_of b) b.setting.now x.excluded.items
  -- there is room for each node, each feature and each dependency
  pub krates_size : x.krates.size ≡ length (document_of b).graph.nodes
  pub features_size : x.features.size ≡ length (listed_features (document_of b))
  -- a feature goes by one number
  pub own : (number : ℕ) → Contains x.features.put number → IsOwn (document_of b) number
  pub has_links : HasLinks (document_of b) x.links
  pub derivable : (f : Fact) → HasFound b x f → Derives b f
  -- each found fact has a step, and each step follows from earlier ones
  pub trace : IsTrace (document_of b) b.setting.now x.trace.items
  pub stepped : (f : Fact) → HasFound b x f → HasSomeStep (document_of b) x.trace.items f
  pub numbered : HaveTheirSteps b x
  pub placed : All (IsFoundEdge b) x.edges.items
  pub toggles : All (IsFoundToggle b) x.toggled.items
  -- a kept edge
  pub reached : (e : Edge) → HasFound b x (Kept e) → HasFound b x (Crate e.child)
  pub used : (e : Edge) → HasFound b x (Kept e) → IsUsed b x e
  pub marked : (e : Edge) (place index : ℕ) → HasFound b x (Kept e) → IsDepAt b e.parent e.child place index → IsMarked x.links place index
  -- a feature that waits does so for no mark
  pub woken : (place index : ℕ) (g : Text) → IsMarked x.links place index → Waits x.links place index g → ⊥
  -- the edges of a dependency that was asked for
  pub tried : (e : Edge) (place index : ℕ) → IsDepAt b e.parent e.child place index → WasAsked x.links place index → HasTried b x e IsAny
  -- the crate that a marked dependency leads to
  pub arrived : (p child : Id) (place index : ℕ) → IsDepAt b p child place index → IsMarked x.links place index → HasFound b x (Crate child)
  -- a toggled and an enabled feature
  pub toggled : (p child : Id) (g : Text) → HasFound b x (Toggled p child g) → HasFound b x (Feature child g)
  pub enabled : (i : Id) (f : Text) → HasFound b x (Feature i f) → HasFound b x (Crate i)

-- more may have been found, and nothing is lost
pub record Grows (b : Context) (old new : SearchState) : Type 0 where
  pub found : (f : Fact) → HasFound b old f → HasFound b new f
  pub steps : (n : ℕ) (f : Fact) → HasStepOf b old n f → HasStepOf b new n f
  pub waits : (p child : Id) (place index : ℕ) (g : Text) → IsDepAt b p child place index → Waits old.links place index g → WaitsOrIsToggled b new p child place index g
  pub krates : (k n : ℕ) → slice_get old.krates.put k ≡ Some n → slice_get new.krates.put k ≡ Some n
  pub features : (k n : ℕ) → slice_get old.features.put k ≡ Some n → slice_get new.features.put k ≡ Some n
  pub krates_taken : new.krates.taken ≡ old.krates.taken
  pub features_taken : new.features.taken ≡ old.features.taken

pub record Advances (b : Context) (old new : SearchState) : Type 0 where
  pub sound : IsSound b new
  pub grows : Grows b old new

-- ---- what was taken has been expanded

-- each edge from the parent to the child by this dependency of a node has been tried
abbrev pub HasTriedEach : Context → SearchState → Id → Id → NodeDepModel → (DependencyModel → Type 0) → Type 0
HasTriedEach b x parent child dep taken = (info : DepKindInfoModel) → Contains dep.dep_kinds info → HasTried b x (edge_between parent child info) taken

-- each edge of the crate has been tried
abbrev pub HasExpanded : Context → SearchState → Id → Type 0
HasExpanded b x i = (e : Edge) → e.parent ≡ i → HasTried b x e IsRequired

-- each root is in it
abbrev pub HasRoots : Context → SearchState → Type 0
HasRoots b x = (i : Id) → HasRoot b i → HasRooted b x i
