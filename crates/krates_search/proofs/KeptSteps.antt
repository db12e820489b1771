-- The step of a kept edge, and what follows from it.
use Rattle.std.proofs.Common.{◌≡◌, ℕ, refl, ap, ◌∙◌}
use Rattle.std.specs.List.{slice_get}
use Rattle.krates_cm.specs.Document.{DependencyModel, DepKindInfoModel, NodeDepModel, node_dep_view}
use Rattle.krates_questions.specs.NodeEntry.{IsEntry, child_of, edge_for, parent_of}
use Rattle.krates_questions.specs.declared.node_entry.NodeEntry.{NodeEntry}
use Rattle.krates_questions.specs.declared.context.Context.{Context}
use Rattle.krates_search.proofs.Finding.{finds_declared, finds_default, for_reason}
use Rattle.krates_selection.specs.Trace.{Names, by_one}
use Rattle.krates_search.specs.declared.search_state.SearchState.{SearchState}
use Rattle.krates_selection.specs.declared.trace.Reason.{Reason}
use Rattle.krates_rules.proofs.OnlyOne.{one_dep}
use Rattle.krates_rules.proofs.Standings.{contains_at}
use Rattle.krates_rules.specs.Admission.{NoneDoubled}
use Rattle.krates_rules.specs.DeclaredDependency.{FirstAt}
use Rattle.krates_rules.specs.Facts.{Edge, Feature, Kept}
use Rattle.krates_rules.specs.Resolved.{HasDep, HasNode, Resolved}
use Rattle.krates_rules.specs.Rules.{default_name}
use Rattle.krates_search.specs.SearchState.{HasStepOf}
use Rattle.krates_search.specs.SearchContext.{FindsUsed}
use Rattle.krates_questions.specs.Context.{Wants}
use Rattle.krates_selection.specs.declared.trace.NumberedFact.TheVariants as numbered

-- the edge of an entry is at its places
pub entry_edge : (r : Resolved) (x : NodeEntry) (k : DepKindInfoModel) (kind : ℕ) → NoneDoubled r.metadata r.graph → IsEntry r x → FirstAt (λ o. o ≡ k) (node_dep_view x.dep.now).dep_kinds kind k
    → Names r (numbered.Kept x.place x.index kind) (Kept (edge_for x k))
entry_edge r x k kind none is first =
    let at = is.at in
    let node : HasNode r (parent_of x) at.node.node = record { among = contains_at r.graph.nodes x.place.index at.node.node at.node.at; id = at.node.id } in
    let dep : HasDep at.node.node (child_of x) at.dep = record { among = contains_at at.node.node.deps x.index at.dep at.at; id = at.id } in
    let same = one_dep r (parent_of x) (child_of x) at.node.node is.node at.dep (node_dep_view x.dep.now) none node is.has_node dep is.has_dep in
    record { edge = edge_for x k; at = record { dep = at; here = ap (λ (d : NodeDepModel). slice_get d.dep_kinds kind) same ∙ first.here }; is = refl }

-- what the declared dependency of a kept edge asks for follows from the step of the edge
pub finds_used : (b : Context) (x : SearchState) (reason : Reason) (n : ℕ) (e : Edge) (d : DependencyModel) → reason ≡ by_one 6 n → HasStepOf b x n (Kept e) → Wants b e d → FindsUsed b x reason d e.child
finds_used b x reason n e d is has wanted =
    record {
      declared = λ g among lists. for_reason b x reason (by_one 6 n) (Feature e.child g) is (finds_declared b x n e d g has wanted among lists);
      by_default = λ uses lists. for_reason b x reason (by_one 6 n) (Feature e.child default_name) is (finds_default b x n e d has wanted uses lists);
    }
