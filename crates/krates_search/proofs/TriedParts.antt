-- What has been tried of the dependencies of a node.
use Rattle.std.proofs.Common.{◌≡◌, ℕ, ◌+◌, ◌<◌, ◌≤◌, List, length, Some, Contains, option_map, inl, inr, sym, ap, ◌∙◌, subst, arith}
use Rattle.std.proofs.lemmas.Bool.{cases_lt}
use Rattle.std.proofs.lemmas.Option.{slice_get-map, slice_get_within, same_Some}
use Rattle.std.specs.List.{slice_get}
use Rattle.krates_cm.specs.Document.{DependencyModel, NodeModel, NodeDepModel}
use Rattle.krates_ids.specs.Identity.{Identity, Reads}
use Rattle.krates_rules.specs.Admission.{NoneDoubled, AreDepIds, dep_texts}
use Rattle.krates_rules.specs.Facts.{Id, Edge}
use Rattle.krates_search.specs.SearchState.{HasTriedEach, HasExpanded, IsRequired, Grows, HasTried}
use Rattle.krates_rules.specs.Resolved.{id_of, HasNode, HasDep}
use Rattle.krates_rules.specs.Questions.{edge_between, ListsEdge, kind_info_of}
use Rattle.krates_search.specs.declared.search_state.SearchState.{SearchState}
use Rattle.krates_rules.proofs.Readings.{ReadsOnce, right_of}
use Rattle.krates_search.proofs.Growing.{tried_grows}
use Rattle.krates_rules.proofs.OnlyOne.{place_in, one_node, one_dep}
use Rattle.krates_questions.specs.declared.context.Context.{Context}
use Rattle.krates_questions.specs.Context.{document_of}

-- the edges of the dependencies so far have been tried
abbrev pub TriedBelow : Context → SearchState → Id → List NodeDepModel → List Identity → ℕ → Type 0
TriedBelow b x parent ds ids end = (k : ℕ) (d : NodeDepModel) (i : Identity) → k < end → slice_get ds k ≡ Some d → slice_get ids k ≡ Some i → HasTriedEach b x parent (id_of i) d IsRequired

pub tried_more : (b : Context) (x y : SearchState) (parent : Id) (ds : List NodeDepModel) (ids : List Identity) (at : ℕ) (d : NodeDepModel) (i : Identity) → Grows b x y → slice_get ds at ≡ Some d
    → slice_get ids at ≡ Some i → TriedBelow b x parent ds ids at → HasTriedEach b y parent (id_of i) d IsRequired → TriedBelow b y parent ds ids (at + 1)
tried_more b x y parent ds ids at d i g here id_here h now k e j below there id_there = elim (cases_lt k at) [
  | inl lower ↦ (λ info c. tried_grows b x y (edge_between parent (id_of j) info) IsRequired g.found (h k e j lower there id_there info c))
  | inr le ↦ (
      let same : at ≡ k = omega arith in
      let dep : d ≡ e = same_Some d e (sym here ∙ ap (λ m. slice_get ds m) same ∙ there) in
      let id : i ≡ j = same_Some i j (sym id_here ∙ ap (λ m. slice_get ids m) same ∙ id_there) in
      subst (λ (z : Identity). HasTriedEach b y parent (id_of z) e IsRequired) id (subst (λ (m : NodeDepModel). HasTriedEach b y parent (id_of i) m IsRequired) dep now))
]

-- an edge has been tried if it has been for each dependency that lists it
tried_by_listed : (b : Context) (x : SearchState) (e : Edge) (taken : DependencyModel → Type 0) → ((dep : NodeDepModel) → ListsEdge (document_of b) e dep → HasTried b x e taken) → HasTried b x e taken
tried_by_listed b x e taken tried = record {
  kept = λ d w is_taken stands. (tried w.declared.declares.dep w.declared.declares.lists).kept d w is_taken stands;
  declared = λ loose. (tried loose.dep loose.lists).declared loose;
  has_package = λ d w is_taken lost. (tried w.declared.declares.dep w.declared.declares.lists).has_package d w is_taken lost;
  has_node = λ d w is_taken lost. (tried w.declared.declares.dep w.declared.declares.lists).has_node d w is_taken lost;
}

-- an edge that the node lists is one of those that were tried
listed_tried : ReadsOnce → (b : Context) (x : SearchState) (e : Edge) (n : NodeModel) (ids : List Identity) (dep : NodeDepModel) → NoneDoubled (document_of b).metadata (document_of b).graph → HasNode (document_of b) e.parent n → AreDepIds n ids
    → TriedBelow b x e.parent n.deps ids (length ids) → ListsEdge (document_of b) e dep → HasTried b x e IsRequired
listed_tried once b x e n ids dep none has z all l =
    let same = one_node (document_of b) e.parent l.node n none l.has_node has in
    let d = subst (λ (m : NodeModel). HasDep m e.child dep) same l.has_dep in
    let at = place_in n.deps dep d.among in
    let text : slice_get (dep_texts n) at.0 ≡ Some dep.pkg = slice_get-map (λ (d : NodeDepModel). d.pkg) n.deps at.0 ∙ ap (option_map (λ (d : NodeDepModel). d.pkg)) at.1 in
    let y = right_of Reads (dep_texts n) ids at.0 dep.pkg z text in
    let child : id_of y.0 ≡ e.child = ap id_of (once dep.pkg y.0 d.id.read y.2 d.id.reads) ∙ d.id.same in
    let tried = all at.0 dep y.0 (slice_get_within ids at.0 y.0 y.1) at.1 y.1 (kind_info_of e) l.has_kind in
    subst (λ (c : Id). HasTried b x (edge_between e.parent c (kind_info_of e)) IsRequired) child tried

-- so all edges of the crate have been tried
pub expanded_here : ReadsOnce → (b : Context) (x : SearchState) (i : Id) (n : NodeModel) (ids : List Identity) → NoneDoubled (document_of b).metadata (document_of b).graph → HasNode (document_of b) i n → AreDepIds n ids
    → TriedBelow b x i n.deps ids (length ids) → HasExpanded b x i
expanded_here once b x i n ids none has z all e same =
    let node = subst (λ (p : Id). HasNode (document_of b) p n) (sym same) has in
    let each = subst (λ (p : Id). TriedBelow b x p n.deps ids (length ids)) (sym same) all in
    tried_by_listed b x e IsRequired (λ dep l. listed_tried once b x e n ids dep none node z each l)

-- each edge between two crates has been tried if those by the dependency between them have
pub between_tried : (b : Context) (x : SearchState) (e : Edge) (n : NodeModel) (dep : NodeDepModel) (taken : DependencyModel → Type 0) → NoneDoubled (document_of b).metadata (document_of b).graph → HasNode (document_of b) e.parent n
    → HasDep n e.child dep → HasTriedEach b x e.parent e.child dep taken → HasTried b x e taken
between_tried b x e n dep taken none has there tried = tried_by_listed b x e taken (λ d l.
    let same = one_dep (document_of b) e.parent e.child l.node n d dep none l.has_node has l.has_dep there in
    tried (kind_info_of e) (subst (λ (m : NodeDepModel). Contains m.dep_kinds (kind_info_of e)) same l.has_kind))

-- all dependencies have been gone over
pub tried_whole : (b : Context) (x : SearchState) (parent : Id) (ds es : List NodeDepModel) (ids : List Identity) (end : ℕ) → es ≡ ds → length ids ≤ end → TriedBelow b x parent ds ids end
    → TriedBelow b x parent es ids (length ids)
tried_whole b x parent ds es ids end same le h =
    subst (λ (ms : List NodeDepModel). TriedBelow b x parent ms ids (length ids)) (sym same) (λ k d i lt. h k d i (omega arith))
