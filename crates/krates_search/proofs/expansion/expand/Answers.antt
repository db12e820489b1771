use Rattle.std.proofs.Common.{◌≡◌, ℕ, map, option_map, Contains, sym, ap, ◌∙◌, subst, arith}
use Rattle.std.proofs.lemmas.Option.{slice_get-map}
use Rattle.krates_cm.specs.Document.{node_dep_view}
use Rattle.krates_ids.specs.Identity.{Identity}
use Rattle.krates_rules.specs.Facts.{Crate, Kept}
use Rattle.krates_search.specs.SearchState.{HasTriedEach, HasFound, HasExpanded, IsRequired, HasStepOf}
use Rattle.krates_rules.specs.Resolved.{id_of}
use Rattle.krates_questions.specs.NodeEntry.{child_of, edge_for}
use Rattle.krates_search.proofs.TriedEdges.{crate_may_try}
use Rattle.krates_search.proofs.Finding.{finds_required, for_reason}
use Rattle.krates_search.proofs.Growing.{advances_trans}
use Rattle.krates_questions.proofs.Lookups.{one_id}
use Rattle.krates_questions.proofs.NodeParts.{deps_long, entry_here, own_long}
use Rattle.krates_search.proofs.TriedParts.{tried_more, tried_whole, expanded_here}
use Rattle.krates_questions.specs.Context.{document_of, Derives, IsNodeAt}
use Rattle.krates_search.proofs.expansion.expand.Goals as goal

pub entry_at-entry-requires-clause-lengths : goal.entry_at-entry-requires-clause-lengths
entry_at-entry-requires-clause-lengths c = sym (deps_long (document_of c.args.context.now) c.number.result c.parts_of-parts.result c.parts_of-parts.ensures)

pub entry_at-entry-requires-clause-versions : goal.entry_at-entry-requires-clause-versions
entry_at-entry-requires-clause-versions c = own_long (document_of c.args.context.now) c.number.result c.parts_of-parts.result c.parts_of-parts.ensures

pub expand_entry-requires-clause-entry : goal.expand_entry-requires-clause-entry
expand_entry-requires-clause-entry c =
    entry_here (document_of c.args.context.now) c.number.result c.parts_of-parts.result c.loop-index.index c.entry_at-entry.result c.parts_of-parts.ensures c.entry_at-entry.ensures

pub expand_entry-requires-clause-may : goal.expand_entry-requires-clause-may
expand_entry-requires-clause-may c k =
    let b = c.args.context.now in
    let parent = c.parts_of-parts.result.parent.now in
    let put = c.args.found.now.krates.put in
    let kept : HasFound b c.args.found.now (Crate (id_of parent)) = record {
      place = c.number.result;
      among = subst (λ (n : ℕ). Contains put n) (sym c.number.ensures) c.requires.put;
      node = c.parts_of-parts.ensures.at;
    } in
    crate_may_try b (edge_for c.entry_at-entry.result k)
    (subst (λ (i : Identity). Derives b (Crate (id_of i))) (sym c.entry_at-entry.ensures.parent) (c.requires.sound.derivable (Crate (id_of parent)) kept))

pub expand_entry-requires-clause-step : goal.expand_entry-requires-clause-step
expand_entry-requires-clause-step c k d wanted is_required stands =
    let b = c.args.context.now in
    let parent = c.parts_of-parts.result.parent.now in
    let x = c.loop-index.found in
    let e = edge_for c.entry_at-entry.result k in
    let node = subst (IsNodeAt b (id_of parent)) c.number.ensures c.parts_of-parts.ensures.at in
    let here = c.loop-index.invariant.0.grows.steps c.args.step (Crate (id_of parent)) (c.requires.step (id_of parent) node) in
    let has = subst (λ (i : Identity). HasStepOf b x c.args.step (Crate (id_of i))) (sym c.entry_at-entry.ensures.parent) here in
    for_reason b x _ _ (Kept e) c.by_one.ensures (finds_required b x c.args.step e d has wanted is_required stands)

pub loop-index-preserved : goal.loop-index-preserved
loop-index-preserved c =
    let b = c.args.context.now in
    let parts = c.parts_of-parts.result in
    let entry = c.entry_at-entry.result in
    let x = c.loop-index.found in
    let y = c.expand_entry.new.found in
    let k = c.loop-index.index in
    let d = node_dep_view entry.dep.now in
    let e = c.entry_at-entry.ensures in
    let dep = slice_get-map node_dep_view parts.deps.now k ∙ ap (option_map node_dep_view) e.dep in
    let step = c.in_ok-expand_entry.ensures in
    let tried = subst (λ (i : Identity). HasTriedEach b y (id_of i) (child_of entry) d IsRequired) e.parent step.tried in (
      advances_trans b c.args.found.now x y c.loop-index.invariant.0 step.advanced,
      tried_more b x y (id_of parts.parent.now) (map node_dep_view parts.deps.now) parts.children.now k d entry.child.now step.advanced.grows dep e.child c.loop-index.invariant.1 tried,
    )

pub returns-clause-expanded : goal.returns-clause-expanded
returns-clause-expanded c krate at =
    let b = c.args.context.now in
    let once = c.one_reading.ensures.once in
    let p = c.parts_of-parts.ensures in
    let parts = c.parts_of-parts.result in
    let parent = id_of parts.parent.now in
    let same : parent ≡ krate = one_id once (document_of b) parent krate c.number.result p.at (subst (IsNodeAt b krate) (sym c.number.ensures) at) in
    let all = tried_whole b c.loop-index.found parent (map node_dep_view parts.deps.now) p.at.node.deps parts.children.now c.loop-index.index p.deps (omega arith) c.loop-index.invariant.1 in
    subst (HasExpanded b c.loop-index.found) same (expanded_here once b c.loop-index.found parent p.at.node parts.children.now c.agrees.ensures.distinct p.has_node p.children all)
