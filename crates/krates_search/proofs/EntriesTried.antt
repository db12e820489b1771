-- The edges of an entry have been tried.
use Rattle.std.proofs.Common.{◌≡◌, subst}
use Rattle.krates_cm.specs.Document.{node_dep_view}
use Rattle.krates_rules.specs.Admission.{NoneDoubled}
use Rattle.krates_rules.specs.Facts.{Id, Edge}
use Rattle.krates_search.specs.SearchState.{HasTriedEach, IsAny, HasTried}
use Rattle.krates_rules.specs.Resolved.{HasNode, HasDep}
use Rattle.krates_questions.specs.NodeEntry.{parent_of, child_of}
use Rattle.krates_search.specs.declared.search_state.SearchState.{SearchState}
use Rattle.krates_questions.specs.declared.node_entry.NodeEntry.{NodeEntry}
use Rattle.krates_rules.proofs.Readings.{ReadsOnce}
use Rattle.krates_search.proofs.TriedParts.{between_tried}
use Rattle.krates_selection.proofs.Steps.{one_way}
use Rattle.krates_questions.specs.declared.context.Context.{Context}
use Rattle.krates_questions.specs.Context.{document_of, IsDepAt, HasEntry}

-- each edge of the entry's dependency has been tried
pub entry_tried : (b : Context) (x : SearchState) (y : NodeEntry) (e : Edge) → NoneDoubled (document_of b).metadata (document_of b).graph → HasEntry b y → parent_of y ≡ e.parent → child_of y ≡ e.child
    → HasTriedEach b x (parent_of y) (child_of y) (node_dep_view y.dep.now) IsAny → HasTried b x e IsAny
entry_tried b x y e none at parent child tried =
    let dep = node_dep_view y.dep.now in
    let has_node = subst (λ (i : Id). HasNode (document_of b) i at.node) parent at.has_node in
    let has_dep = subst (λ (i : Id). HasDep at.node i dep) child at.has_dep in
    let each = subst (λ (i : Id). HasTriedEach b x e.parent i dep IsAny) child (subst (λ (i : Id). HasTriedEach b x i (child_of y) dep IsAny) parent tried) in
    between_tried b x e at.node dep IsAny none has_node has_dep each

-- so each edge at the entry's places has been
pub noted_tried : ReadsOnce → (b : Context) (x : SearchState) (y : NodeEntry) → NoneDoubled (document_of b).metadata (document_of b).graph → HasEntry b y → HasTriedEach b x (parent_of y) (child_of y) (node_dep_view y.dep.now) IsAny
    → (e : Edge) → IsDepAt b e.parent e.child y.place.index y.index → HasTried b x e IsAny
noted_tried once b x y none is tried e there =
    let same = one_way once (document_of b) (parent_of y) (child_of y) e.parent e.child y.place.index y.index is.at there in
    entry_tried b x y e none is same.0 same.1 tried
