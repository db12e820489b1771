-- What a selection says, in which order, by which steps and by how much work, and when it is that of a document and a setting.
use Rattle.std.specs.Prelude.{ℕ, ◌<◌, List, [], get_or, map, Bool, String, ◌==◌, ◌≡◌, ◌-◌, ◌^◌, length, max, min, ◌↔◌, ◌++◌, All, Contains, option_map}
use Rattle.krates_ids.specs.Identity.{Identity, id_cmp}
use Rattle.krates_rules.specs.Facts.{Id, Edge, Fact, Crate, Kept, Feature, Toggled}
use Rattle.krates_rules.specs.Resolved.{id_of, Resolved, HasPackage, HasGraphWith, resolved}
use Rattle.krates_selection.specs.declared.selection.EnabledFeature.{EnabledFeature}
use Rattle.krates_selection.specs.declared.selection.KeptEdge.{KeptEdge}
use Rattle.krates_selection.specs.declared.selection.ToggledFeature.{ToggledFeature}
use Rattle.std.specs.declared.alloc.Global.{Global}
use Rattle.std.specs.declared.cmp.Ordering.{Ordering}
use Rattle.std.specs.Cmp.Lexicographic.{slice_cmp, pointwise}
use Rattle.std.specs.Ordering.{eq_of_both, nat_cmp, on, then_cmp}
use Rattle.krates_cm.specs.Document.{text_view, Text, PackageModel, DependencyModel, MetadataModel}
use Rattle.std.specs.List.{AllZip, sum}
use Rattle.krates_rules.specs.Referent.{AreReferents}
use Rattle.krates_rules.specs.Setting.{SettingModel}
use Rattle.krates_text.specs.FeatureReference.{Reference, IsReference, krate, simple, strong, weak}
use Rattle.krates_questions.specs.FeatureTable.{values_of}
use Rattle.krates_selection.specs.declared.work.Work.{Work}
use Rattle.std.specs.List.Sorted.{IsStrictlySortedBy}
use Rattle.krates_rules.specs.DeclaredDependency.{FirstAt}
use Rattle.krates_rules.specs.Derivation.{Derivable}
use Rattle.krates_rules.specs.Questions.{IsDeclaredAt, kind_info_of, questions}
use Rattle.krates_selection.specs.declared.selection.Selection.{Selection}
use Rattle.krates_selection.specs.Trace.{HasSomeStep, IsTrace}

-- ---- the numbers of kept crates: the places of their ids among those of all kept crates

-- the id under a number that no crate has
abbrev pub no_id : Id
no_id = record { name = []; version = []; source = [] }

-- the id of the crate of a number
abbrev pub id_at : List Identity → ℕ → Id
id_at kids n = get_or (map id_of kids) n no_id

-- the numbers of its crates are below this one
pub record HasEnds (n : ℕ) (e : KeptEdge) : Type 0 where
  pub parent : e.parent < n
  pub child : e.child < n

abbrev pub HasHome : ℕ → EnabledFeature → Type 0
HasHome n f = f.krate < n

pub record HasCrates (n : ℕ) (t : ToggledFeature) : Type 0 where
  pub by : t.by < n
  pub krate : t.krate < n

-- ---- how edges and features compare: by the numbers of their crates, which are in the order of ids

-- kept edges by parent, then child, then place
abbrev pub place_cmp : KeptEdge → KeptEdge → Ordering
place_cmp = then_cmp (on (λ e. e.parent) nat_cmp) (then_cmp (on (λ e. e.child) nat_cmp) (on (λ e. e.place) nat_cmp))

-- texts by their bytes
abbrev pub text_cmp : String Global → String Global → Ordering
text_cmp = on text_view (slice_cmp nat_cmp)

-- whether the texts have the same bytes
abbrev pub same_text : String Global → String Global → Bool
same_text = on text_view (pointwise ◌==◌)

-- features by crate, then name
abbrev pub feature_cmp : EnabledFeature → EnabledFeature → Ordering
feature_cmp = then_cmp (on (λ f. f.krate) nat_cmp) (on (λ f. f.name) text_cmp)

-- whether the features have the same crate and name
abbrev pub same_feature : EnabledFeature → EnabledFeature → Bool
same_feature = eq_of_both (on (λ f. f.krate) ◌==◌) (on (λ f. f.name) same_text)

-- toggled features by the crate that toggles, then the crate of the feature, then its name
abbrev pub toggled_cmp : ToggledFeature → ToggledFeature → Ordering
toggled_cmp = then_cmp (on (λ t. t.by) nat_cmp) (then_cmp (on (λ t. t.krate) nat_cmp) (on (λ t. t.name) text_cmp))

-- ---- how much work a selection was

-- a count of so many, which stays at the greatest value of 64 bits
abbrev pub counted : ℕ → ℕ
counted n = min n (2 ^ 64 - 1)

-- a reference by the name counts once for each crate that the name means, and once where it means none
pub record CountsName (r : Resolved) (all : Bool) (i : Id) (name : Text) (n : ℕ) : Type 0 where
  pub ids : List Id
  pub are : AreReferents r all i name ids
  pub count : n ≡ max (length ids) 1

-- how often a reference counts: as its dependency's name, or once where it is a feature of its own crate
abbrev pub CountsReference : Resolved → Bool → Id → Reference → ℕ → Type 0
CountsReference r all i (simple g) n = n ≡ 1
CountsReference r all i (krate name) n = CountsName r all i name n
CountsReference r all i (strong name g) n = CountsName r all i name n
CountsReference r all i (weak name g) n = CountsName r all i name n

-- and how often a text, which is one
pub record CountsText (r : Resolved) (all : Bool) (i : Id) (text : Text) (n : ℕ) : Type 0 where
  pub reference : Reference
  pub is : IsReference text reference
  pub counts : CountsReference r all i reference n

-- the feature's list in the crate's package has so many references, as they count; none where the package lacks the feature
pub record HasReferences (r : Resolved) (s : SettingModel) (i : Id) (f : Text) (n : ℕ) : Type 0 where
  pub pkg : PackageModel
  pub has_package : HasPackage r i pkg
  pub counts : List ℕ
  pub each : AllZip (CountsText r s.all_named i) (values_of pkg.features f) counts
  pub count : n ≡ sum counts

-- the features of these crates have so many references together
pub record HaveReferences (r : Resolved) (s : SettingModel) (kids : List Identity) (features : List EnabledFeature) (n : ℕ) : Type 0 where
  pub counts : List ℕ
  pub each : AllZip (λ f k. HasReferences r s (id_at kids f.krate) (text_view f.name) k) features counts
  pub total : n ≡ sum counts

-- each of these crates is counted once, and so is each of these features, with all its references
pub record CountsEach (r : Resolved) (s : SettingModel) (kids : List Identity) (features : List EnabledFeature) (work : Work) : Type 0 where
  pub krates : work.krates ≡ counted (length kids)
  pub features_once : work.features ≡ counted (length features)
  pub references : (n : ℕ) × HaveReferences r s kids features n × (work.references ≡ counted n)

-- nothing is counted yet
abbrev pub IsFresh : Work → Type 0
IsFresh work = work ≡ record { krates = 0; features = 0; references = 0 }

-- ---- the facts of a selection

-- a kept edge between these crates as the rules speak of it: without its places
abbrev pub edge_view : List Identity → KeptEdge → Edge
edge_view kids e = record { parent = id_at kids e.parent; child = id_at kids e.child; kind = e.kind; cfg = option_map text_view e.cfg }

-- that the crate is kept
abbrev pub crate_fact : Identity → Fact
crate_fact i = Crate (id_of i)

-- that the edge is kept
abbrev pub edge_fact : List Identity → KeptEdge → Fact
edge_fact kids e = Kept (edge_view kids e)

-- that the feature is enabled
abbrev pub feature_fact : List Identity → EnabledFeature → Fact
feature_fact kids f = Feature (id_at kids f.krate) (text_view f.name)

-- that a crate toggles the feature
abbrev pub toggled_fact : List Identity → ToggledFeature → Fact
toggled_fact kids t = Toggled (id_at kids t.by) (id_at kids t.krate) (text_view t.name)

-- all that a selection says, as facts
abbrev pub facts_of : Selection → List Fact
facts_of x =
    let kids = x.krates.items in
    map crate_fact kids ++ (map (edge_fact kids) x.edges.items ++ (map (feature_fact kids) x.features.items ++ map (toggled_fact kids) x.toggled.items))

-- ---- the selection of a document

-- the declared dependency of the edge is at the one place, and its kind and target first at the other
pub record IsPlacedAs (r : Resolved) (s : SettingModel) (e : Edge) (at first : ℕ) : Type 0 where
  pub dependency : DependencyModel
  pub declared : IsDeclaredAt r s e at dependency
  pub place : FirstAt (λ k. k ≡ kind_info_of e) declared.declares.dep.dep_kinds first (kind_info_of e)

-- the edge names its declared dependency, and the first place of its kind and target
abbrev pub IsPlaced : Resolved → SettingModel → List Identity → KeptEdge → Type 0
IsPlaced r s kids e = IsPlacedAs r s (edge_view kids e) e.declared e.place

-- The selection has exactly the derivable facts, a crate among them, each list in order and without doubles, and by number only
-- crates that it has; and each crate, each feature and each reference of these is counted once.
pub record IsSelection (r : Resolved) (s : SettingModel) (x : Selection) : Type 0 where
  pub facts : (f : Fact) → Derivable (questions r s) f ↔ Contains (facts_of x) f
  pub some : (i : Id) × Derivable (questions r s) (Crate i)
  pub krates : IsStrictlySortedBy id_cmp x.krates.items
  pub edges : IsStrictlySortedBy place_cmp x.edges.items
  pub ends : All (HasEnds (length x.krates.items)) x.edges.items
  pub placed : All (IsPlaced r s x.krates.items) x.edges.items
  pub features : IsStrictlySortedBy feature_cmp x.features.items
  pub homes : All (HasHome (length x.krates.items)) x.features.items
  pub toggled : IsStrictlySortedBy toggled_cmp x.toggled.items
  pub toggled_crates : All (HasCrates (length x.krates.items)) x.toggled.items
  pub work : CountsEach r s x.krates.items x.features.items x.work

-- it is that of the document under the setting
abbrev pub IsSelectionOf : MetadataModel → SettingModel → Selection → Type 0
IsSelectionOf m s x = HasGraphWith m (λ g. IsSelection (resolved m g) s x)

-- ---- the steps of a selection

-- The selection's steps are a derivation, in numbers of this document, and each of its facts has a step.
pub record IsExplained (r : Resolved) (s : SettingModel) (x : Selection) : Type 0 where
  pub trace : IsTrace r s x.steps.items
  pub stepped : (f : Fact) → Contains (facts_of x) f → HasSomeStep r x.steps.items f

-- and it is one of the document under the setting
abbrev pub IsExplainedOf : MetadataModel → SettingModel → Selection → Type 0
IsExplainedOf m s x = HasGraphWith m (λ g. IsExplained (resolved m g) s x)
