use Rattle.std.proofs.Common.{sym, subst}
use Rattle.krates_cm.specs.Document.{DependencyModel, dep_kind_info_view}
use Rattle.krates_rules.specs.Facts.{Crate, Kept}
use Rattle.krates_search.specs.SearchState.{HasFound, HasEnabledFor, MayEnableFor}
use Rattle.krates_search.specs.Found.{IsFirstOf}
use Rattle.krates_selection.specs.Trace.{HasSomeStep}
use Rattle.krates_questions.specs.declared.lookup.NodePlace.{NodePlace}
use Rattle.krates_questions.specs.NodeEntry.{parent_of, child_of, declared_in, entry_of, edge_for}
use Rattle.krates_document.proofs.DeclaredOnce.{declared_stands}
use Rattle.krates_search.proofs.EdgeGrowth.{edge_advances, edge_kept, placed_here, declared_seen, declared_within, used_once, marked_once}
use Rattle.krates_search.proofs.Finding.{finds_target, for_reason}
use Rattle.krates_search.proofs.Growing.{advances_trans, used_grows}
use Rattle.krates_search.proofs.KeptSteps.{entry_edge, finds_used}
use Rattle.krates_search.proofs.Waking.{may_use}
use Rattle.krates_questions.specs.Context.{document_of, IsNodeAt}
use Rattle.krates_search.specs.SearchContext.{FindsUsed}
use Rattle.krates_search.proofs.enabling.keep.Goals as goal

pub put_step-requires-clause-may : goal.put_step-requires-clause-may
put_step-requires-clause-may c =
    let x = c.args.edge.now.entry.now in
    let k = dep_kind_info_view c.args.edge.now.info.now in
    record { fact = Kept (edge_for x k); names = entry_edge (document_of c.args.context.now) x k c.args.keeping.kind c.agrees.ensures.distinct c.requires.entry c.requires.first; finds = c.requires.step }

pub put_krate-requires-clause-sound : goal.put_krate-requires-clause-sound
put_krate-requires-clause-sound c = c.in_ok-number.ensures.advanced.sound

pub put_krate-requires-clause-may : goal.put_krate-requires-clause-may
put_krate-requires-clause-may c =
    let b = c.args.context.now in
    let x = c.args.edge.now.entry.now in
    let k = dep_kind_info_view c.args.edge.now.info.now in
    let y = c.put_step.new.found in
    let has = c.in_ok-number.ensures.put (Kept (edge_for x k)) (entry_edge (document_of b) x k c.args.keeping.kind c.agrees.ensures.distinct c.requires.entry c.requires.first) in
    record {
      krate = child_of x;
      node = c.requires.node;
      finds = for_reason b y _ _ (Crate (child_of x)) c.by_one.ensures (finds_target b y c.in_ok-number.number (edge_for x k) has);
    }

pub declared_at-dependency-requires : goal.declared_at-dependency-requires
declared_at-dependency-requires c =
    let x = c.args.edge.now.entry.now in
    let k = dep_kind_info_view c.args.edge.now.info.now in
    let d = c.requires.wanted in
    declared_within x.declared.now c.args.keeping.declared d.0 (declared_stands (declared_in x) (entry_of x) k c.args.keeping.declared d.0 d.1)

pub enable_declared-requires-clause-node : goal.enable_declared-requires-clause-node
enable_declared-requires-clause-node c = record { at = c.requires.node; read = c.requires.entry.child_read }

pub enable_declared-requires-clause-sound : goal.enable_declared-requires-clause-sound
enable_declared-requires-clause-sound c = c.in_ok-put_krate.ensures.advanced.sound

pub enable_declared-requires-clause-kept : goal.enable_declared-requires-clause-kept
enable_declared-requires-clause-kept c = record { place = c.args.keeping.node.index; among = c.in_ok-put_krate.ensures.put; node = c.requires.node }

pub enable_declared-requires-clause-may : goal.enable_declared-requires-clause-may
enable_declared-requires-clause-may c =
    let b = c.args.context.now in
    let x = c.args.edge.now.entry.now in
    let k = dep_kind_info_view c.args.edge.now.info.now in
    let d = c.requires.wanted in
    let is = declared_seen x.declared.now c.args.keeping.declared d.0 c.declared_at-dependency.result.now (declared_stands (declared_in x) (entry_of x) k c.args.keeping.declared d.0 d.1) c.declared_at-dependency.ensures in
    subst (λ (m : DependencyModel). MayEnableFor b m (child_of x)) (sym is) (may_use b (edge_for x k) d.0 d.2 c.requires.may)

pub enable_declared-requires-clause-step : goal.enable_declared-requires-clause-step
enable_declared-requires-clause-step c =
    let b = c.args.context.now in
    let x = c.args.edge.now.entry.now in
    let k = dep_kind_info_view c.args.edge.now.info.now in
    let d = c.requires.wanted in
    let z = c.put_krate.new.found in
    let e = edge_for x k in
    let n = c.in_ok-number.number in
    let has = c.in_ok-number.ensures.put (Kept e) (entry_edge (document_of b) x k c.args.keeping.kind c.agrees.ensures.distinct c.requires.entry c.requires.first) in
    let is = declared_seen x.declared.now c.args.keeping.declared d.0 c.declared_at-dependency.result.now (declared_stands (declared_in x) (entry_of x) k c.args.keeping.declared d.0 d.1) c.declared_at-dependency.ensures in
    subst (λ (m : DependencyModel). FindsUsed b z c.by_one-2.result m (child_of x)) (sym is) (finds_used b z c.by_one-2.result n e d.0 c.by_one-2.ensures (c.in_ok-put_krate.ensures.advanced.grows.steps n (Kept e) has) d.2)

pub wake-requires-clause-node : goal.wake-requires-clause-node
wake-requires-clause-node c = record { at = c.requires.node; read = c.requires.entry.child_read }

pub wake-requires-clause-kept : goal.wake-requires-clause-kept
wake-requires-clause-kept c = c.in_ok-enable_declared.ensures.advanced.grows.found (Crate (child_of c.args.edge.now.entry.now)) (record { place = c.args.keeping.node.index; among = c.in_ok-put_krate.ensures.put; node = c.requires.node })

pub wake-requires-clause-step : goal.wake-requires-clause-step
wake-requires-clause-step c =
    let b = c.args.context.now in
    let x = c.args.edge.now.entry.now in
    let k = dep_kind_info_view c.args.edge.now.info.now in
    let e = edge_for x k in
    let n = c.in_ok-number.number in
    let has = c.in_ok-number.ensures.put (Kept e) (entry_edge (document_of b) x k c.args.keeping.kind c.agrees.ensures.distinct c.requires.entry c.requires.first) in
    (k, c.in_ok-enable_declared.ensures.advanced.grows.steps n (Kept e) (c.in_ok-put_krate.ensures.advanced.grows.steps n (Kept e) has))

pub returns-clause-advanced : goal.returns-clause-advanced
returns-clause-advanced c =
    let b = c.args.context.now in
    let x = c.args.edge.now.entry.now in
    let k = dep_kind_info_view c.args.edge.now.info.now in
    let e = edge_for x k in
    let d = c.requires.wanted in
    let none = c.agrees.ensures.distinct in
    let old = c.args.found.now in
    let n = c.in_ok-number.number in
    let noted = c.in_ok-number.ensures in
    let put = c.in_ok-put_krate.ensures in
    let enabled = c.in_ok-enable_declared.ensures in
    let woken = c.in_ok-wake.ensures in
    let kept = c.found_edge-kept.ensures in
    let is = declared_seen x.declared.now c.args.keeping.declared d.0 c.declared_at-dependency.result.now (declared_stands (declared_in x) (entry_of x) k c.args.keeping.declared d.0 d.1) c.declared_at-dependency.ensures in
    let v = c.put_step.new.found in
    let w = c.put_krate.new.found in
    let y = c.enable_declared.new.found in
    let z = c.wake.new.found in
    let crate_there : HasFound b w (Crate e.child) = record { place = c.args.keeping.node.index; among = put.put; node = c.requires.node } in
    let has = noted.put (Kept e) (entry_edge (document_of b) x k c.args.keeping.kind c.agrees.ensures.distinct c.requires.entry c.requires.first) in
    let some : HasSomeStep (document_of b) z.trace.items (Kept e) = (n, woken.advanced.grows.steps n (Kept e) (enabled.advanced.grows.steps n (Kept e) (put.advanced.grows.steps n (Kept e) has))) in
    let used = used_grows b y z d.0 e.child woken.advanced.grows.found (subst (λ (m : DependencyModel). HasEnabledFor b y m e.child) is enabled.used) in
    let reached = woken.advanced.grows.found (Crate e.child) (enabled.advanced.grows.found (Crate e.child) crate_there) in
    let last = edge_advances b z c.push.new.self c.found_edge-kept.result e woken.advanced.sound c.in_ok-push.ensures.items kept.edge
    (placed_here b x k c.found_edge-kept.result c.args.keeping.declared d.0 none c.requires.entry d.1 d.2 kept.edge kept.declared (subst (IsFirstOf c.args.edge.now) (sym kept.place) c.requires.first) kept.parent_node (subst (λ (p : NodePlace). IsNodeAt b (child_of x) p.index) (sym kept.child_node) c.requires.node)) reached (used_once b z e d.0 none d.2 used)
    (marked_once (document_of b) (parent_of x) (child_of x) x.place.index x.index z.links none c.requires.entry.at woken.marked) c.requires.may some in
    advances_trans b old z _ (advances_trans b old y z (advances_trans b old w y (advances_trans b old v w noted.advanced put.advanced) enabled.advanced) woken.advanced) last.0

pub returns-clause-kept : goal.returns-clause-kept
returns-clause-kept c =
    let e = edge_for c.args.edge.now.entry.now (dep_kind_info_view c.args.edge.now.info.now) in
    edge_kept c.wake.new.found c.push.new.self c.found_edge-kept.result e c.in_ok-push.ensures.items c.found_edge-kept.ensures.edge
