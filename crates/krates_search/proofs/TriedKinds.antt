-- What has been tried of the kinds and targets of a dependency.
use Rattle.std.proofs.Common.{◌≡◌, ℕ, ◌<◌, ◌≤◌, ◌+◌, List, length, get_or, map, Some, Contains, sym, ◌∙◌, subst}
use Rattle.std.proofs.lemmas.Option.{same_Some}
use Rattle.std.specs.List.{slice_get}
use Rattle.krates_cm.specs.Document.{DependencyModel, DepKindInfoModel, dep_kind_info_view}
use Rattle.krates_rules.proofs.Seen.{SeenBelow, seen_all, seen_more}
use Rattle.krates_questions.specs.NodeEntry.{edge_for}
use Rattle.krates_questions.specs.declared.node_entry.NodeEntry.{NodeEntry}
use Rattle.krates_search.specs.declared.search_state.SearchState.{SearchState}
use Rattle.krates_search.proofs.Growing.{tried_grows}
use Rattle.krates_questions.specs.declared.context.Context.{Context}
use Rattle.krates_search.specs.Found.{AreFirstKinds}
use Rattle.krates_search.specs.SearchState.{Grows, HasTried}

-- the kinds and targets of the entry's dependency
abbrev pub kinds_in : NodeEntry → List DepKindInfoModel
kinds_in x = map dep_kind_info_view x.dep.now.dep_kinds.items

-- the edge of the kind and target at this place has been tried
abbrev pub TriedKind : Context → SearchState → NodeEntry → (DependencyModel → Type 0) → ℕ → Type 0
TriedKind b x entry taken place = (k : DepKindInfoModel) → slice_get (kinds_in entry) place ≡ Some k → HasTried b x (edge_for entry k) taken

-- and so those of the first of these places
abbrev pub TriedKinds : Context → SearchState → NodeEntry → (DependencyModel → Type 0) → List ℕ → ℕ → Type 0
TriedKinds b x entry taken places n = SeenBelow (TriedKind b x entry taken) places n

-- one more was tried
pub kinds_more : (b : Context) (x y : SearchState) (entry : NodeEntry) (taken : DependencyModel → Type 0) (places : List ℕ) (i place : ℕ) (k : DepKindInfoModel) → Grows b x y → i < length places → place ≡ get_or places i place
    → slice_get (kinds_in entry) place ≡ Some k → TriedKinds b x entry taken places i → HasTried b y (edge_for entry k) taken → TriedKinds b y entry taken places (i + 1)
kinds_more b x y entry taken places i place k g lt is here h now =
    seen_more (TriedKind b y entry taken) places i place lt is (λ n d low m there. tried_grows b x y _ taken g.found (h n d low m there))
    (λ m there. subst (λ (o : DepKindInfoModel). HasTried b y (edge_for entry o) taken) (same_Some k m (sym here ∙ there)) now)

-- all were
pub kinds_whole : (b : Context) (x : SearchState) (entry : NodeEntry) (taken : DependencyModel → Type 0) (items places : List ℕ) (i : ℕ) → AreFirstKinds (kinds_in entry) places → items ≡ places → length items ≤ i
    → TriedKinds b x entry taken items i → (k : DepKindInfoModel) → Contains (kinds_in entry) k → HasTried b x (edge_for entry k) taken
kinds_whole b x entry taken items places i first same le h k among =
    let w = first.each k among in
    let at = w.1 in
    subst (TriedKind b x entry taken) at.2 (seen_all (TriedKind b x entry taken) items places i same le h at.0 w.0 at.1) k w.2
