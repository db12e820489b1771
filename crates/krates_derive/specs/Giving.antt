-- What single facts give by one rule, and when all of that is in a list.
use Rattle.std.specs.Prelude.{List, ◌≡◌, Bool, true, false, Contains, ⊤}
use Rattle.krates_rules.specs.StepViews.{facts_view}
use Rattle.krates_derive.specs.declared.closing.ClosureCheck.{ClosureCheck}
use Rattle.krates_questions.specs.Context.{document_of}
use Rattle.krates_rules.specs.Facts.{Fact, Id, Edge, Crate, Feature, Kept, Toggled}
use Rattle.krates_rules.specs.Resolved.{Resolved, NoPackage}
use Rattle.krates_rules.specs.Setting.{SettingModel}
use Rattle.krates_cm.specs.Document.{Text, DependencyModel, DepKindInfoModel}
use Rattle.krates_rules.specs.Features.{ListsFeature, LacksFeature, HasReference}
use Rattle.krates_rules.specs.Questions.{Stands, LacksNode, IsDeclaredAs, IsWanted, IsLoose, edge_between}
use Rattle.krates_rules.specs.Referent.{IsReferent}
use Rattle.krates_rules.specs.Roots.{IsRoot}
use Rattle.krates_rules.specs.Rules.{default_name}
use Rattle.krates_text.specs.FeatureReference.{IsReference, Reference, krate, simple, strong, weak}

abbrev pub document_in : ClosureCheck → Resolved
document_in c = document_of c.context

abbrev pub setting_in : ClosureCheck → SettingModel
setting_in c = c.context.setting.now

-- the list
abbrev pub facts_in : ClosureCheck → List Fact
facts_in c = facts_view c.facts.now

-- ---- by single facts

-- the feature is in the list if it is listed, and isn't lost
pub record NamedIn (r : Resolved) (fs : List Fact) (i : Id) (g : Text) : Type 0 where
  pub enabled : ListsFeature r i g → Contains fs (Feature i g)
  pub listed : LacksFeature r i g → ⊥

-- the toggled feature is in the list if it is listed, and isn't lost
pub record ToggledIn (r : Resolved) (fs : List Fact) (p c : Id) (g : Text) : Type 0 where
  pub toggled : ListsFeature r c g → Contains fs (Toggled p c g)
  pub listed : LacksFeature r c g → ⊥

-- the dependency is taken: it is asked for, or isn't optional
abbrev pub IsTaken : Bool → DependencyModel → Type 0
IsTaken true d = ⊤
IsTaken false d = d.optional ≡ false

-- the child of a wanted edge stands and the edge is in the list, or the child is excluded
pub record ChildIn (r : Resolved) (s : SettingModel) (fs : List Fact) (e : Edge) : Type 0 where
  pub kept : Stands r s e.child → Contains fs (Kept e)
  pub has_package : NoPackage r e.child → ⊥
  pub has_node : LacksNode r s e.child → ⊥

-- what keeping the edge gives, where it is asked for, or by its parent
pub record EdgeIn (r : Resolved) (s : SettingModel) (fs : List Fact) (e : Edge) (asked : Bool) : Type 0 where
  pub child : (d : DependencyModel) → IsWanted r s e d → IsTaken asked d → ChildIn r s fs e
  pub declared : asked ≡ false → IsLoose r s e → ⊥

-- the root is in the list with its features, or is excluded
pub record RootIn (r : Resolved) (s : SettingModel) (fs : List Fact) (i : Id) : Type 0 where
  pub kept : Stands r s i → Contains fs (Crate i)
  pub enabled : Stands r s i → (f : Text) → ListsFeature r i f → Contains fs (Feature i f)
  pub has_package : NoPackage r i → ⊥
  pub has_node : LacksNode r s i → ⊥

-- each root does
abbrev pub RootsIn : Resolved → SettingModel → List Fact → Type 0
RootsIn r s fs = (i : Id) → IsRoot r s i → RootIn r s fs i

-- all edges of the crate that have to be kept are in the list
abbrev pub CrateIn : Resolved → SettingModel → List Fact → Id → Type 0
CrateIn r s fs p = (c : Id) (k : DepKindInfoModel) → EdgeIn r s fs (edge_between p c k) false

-- the edges to each crate that the name means are in the list
abbrev pub EdgesToIn : Resolved → SettingModel → List Fact → Id → Text → Type 0
EdgesToIn r s fs p dep = (c : Id) → IsReferent r s.all_named p dep c → (k : DepKindInfoModel) → EdgeIn r s fs (edge_between p c k) true

-- the feature of the other crate is toggled, where the list has an edge there
abbrev pub MeantIn : Resolved → List Fact → Id → Id → Text → Type 0
MeantIn r fs p c g = (e : Edge) → Contains fs (Kept e) → e.parent ≡ p → e.child ≡ c → ToggledIn r fs p c g

-- the feature of each crate that the name means
abbrev pub DepIn : Resolved → SettingModel → List Fact → Id → Text → Text → Type 0
DepIn r s fs p dep g = (c : Id) → IsReferent r s.all_named p dep c → MeantIn r fs p c g

-- what a reference of a feature of the crate gives: the feature that it names, the edges that it asks for, and what it toggles
abbrev pub GivesIn : Resolved → SettingModel → List Fact → Id → Reference → Type 0
GivesIn r s fs p (simple g) = NamedIn r fs p g
GivesIn r s fs p (krate dep) = EdgesToIn r s fs p dep
GivesIn r s fs p (strong dep g) = EdgesToIn r s fs p dep × DepIn r s fs p dep g
GivesIn r s fs p (weak dep g) = DepIn r s fs p dep g

-- what a feature gives
pub record FeatureIn (r : Resolved) (s : SettingModel) (fs : List Fact) (p : Id) (f : Text) : Type 0 where
  pub crate : Contains fs (Crate p)
  pub given : (a : Reference) → HasReference r p f a → GivesIn r s fs p a

-- what a declared dependency asks of its crate
pub record UsedIn (r : Resolved) (fs : List Fact) (c : Id) (d : DependencyModel) : Type 0 where
  pub declared : (g : Text) → Contains d.features g → NamedIn r fs c g
  pub by_default : d.uses_default_features ≡ true → ListsFeature r c default_name → Contains fs (Feature c default_name)

-- what a kept edge gives
pub record KeptIn (r : Resolved) (fs : List Fact) (e : Edge) : Type 0 where
  pub crate : Contains fs (Crate e.child)
  pub used : (d : DependencyModel) → IsDeclaredAs r e d → UsedIn r fs e.child d

-- what a fact gives, alone and with the edges of the list
abbrev pub FactIn : Resolved → SettingModel → List Fact → Fact → Type 0
FactIn r s fs (Crate p) = CrateIn r s fs p
FactIn r s fs (Feature p f) = FeatureIn r s fs p f
FactIn r s fs (Kept e) = KeptIn r fs e
FactIn r s fs (Toggled p c g) = Contains fs (Feature c g)
FactIn r s fs _ = ⊤

-- ---- lists of them

-- the crate is in the list with all features that its node lists
abbrev pub StockIn : Resolved → List Fact → Id → Type 0
StockIn r fs i = Contains fs (Crate i) × ((f : Text) → ListsFeature r i f → Contains fs (Feature i f))

-- the edges from one crate to another, of all kinds and for all targets
abbrev pub EdgesIn : Resolved → SettingModel → List Fact → Id → Id → Bool → Type 0
EdgesIn r s fs p c asked = (k : DepKindInfoModel) → EdgeIn r s fs (edge_between p c k) asked

-- the default feature, where it is used
abbrev pub DefaultIn : Resolved → List Fact → Id → Bool → Type 0
DefaultIn r fs c uses = uses ≡ true → ListsFeature r c default_name → Contains fs (Feature c default_name)

-- these features
abbrev pub NamesIn : Resolved → List Fact → Id → List Text → Type 0
NamesIn r fs c names = (g : Text) → Contains names g → NamedIn r fs c g

-- what the reference that the text is gives
abbrev pub ReferenceIn : Resolved → SettingModel → List Fact → Id → Text → Type 0
ReferenceIn r s fs p text = (a : Reference) → IsReference text a → GivesIn r s fs p a

-- what these references give
abbrev pub ReferencesIn : Resolved → SettingModel → List Fact → Id → List Text → Type 0
ReferencesIn r s fs p texts = (text : Text) → Contains texts text → ReferenceIn r s fs p text

-- what these facts give
abbrev pub AllIn : Resolved → SettingModel → List Fact → List Fact → Type 0
AllIn r s fs given = (f : Fact) → Contains given f → FactIn r s fs f

-- what these roots give
abbrev pub TheseRootsIn : Resolved → SettingModel → List Fact → List Id → Type 0
TheseRootsIn r s fs roots = (i : Id) → Contains roots i → RootIn r s fs i
