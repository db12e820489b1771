use Rattle.std.proofs.Common.{sym, ◌∙◌, subst, true, false, inl, inr}
use Rattle.krates_cm.specs.Document.{dep_kind_info_view}
use Rattle.krates_search.specs.SearchContext.{HasAvailability}
use Rattle.krates_search.specs.SearchState.{IsAny, TakenWhen}
use Rattle.krates_questions.specs.NodeEntry.{edge_for}
use Rattle.krates_questions.proofs.EntryEdges.{heeds, is_ignored, loose, wanted}
use Rattle.krates_search.proofs.EdgeGrowth.{optional_declared}
use Rattle.krates_search.proofs.TriedEdges.{taken_here, ignored_tried, optional_tried, barred_tried, left_out_tried, kept_tried}
use Rattle.krates_search.proofs.expansion.expand_edge.Goals.{else-not-trial-via-then-not-trial+else-declared_at, else-not-trial-via-else-not-trial}
use Rattle.krates_questions.specs.Context.{document_of}
use Rattle.krates_search.proofs.expansion.expand_edge.Goals as goal

pub returns-then-ignores-clause-tried : goal.returns-then-ignores-clause-tried
returns-then-ignores-clause-tried c =
    let b = c.args.context.now in
    let e = edge_for c.args.edge.now.entry.now (dep_kind_info_view c.args.edge.now.info.now) in
    ignored_tried b c.args.found.now e (TakenWhen c.args.trial.now.asked) (is_ignored (document_of b) b.setting.now e c.args.edge.now.entry.now.is_member c.requires.entry.tells (sym c.ignores.ensures ∙ c.if-ignores.true))

pub returns-then-ignores-clause-whole : goal.returns-then-ignores-clause-whole
returns-then-ignores-clause-whole c so =
    let b = c.args.context.now in
    let e = edge_for c.args.edge.now.entry.now (dep_kind_info_view c.args.edge.now.info.now) in
    ignored_tried b c.args.found.now e IsAny (is_ignored (document_of b) b.setting.now e c.args.edge.now.entry.now.is_member c.requires.entry.tells (sym c.ignores.ensures ∙ c.if-ignores.true))

pub returns-in_default-clause-refused : goal.returns-in_default-clause-refused
returns-in_default-clause-refused c =
    let b = c.args.context.now in
    let k = dep_kind_info_view c.args.edge.now.info.now in
    let h = heeds (document_of b) b.setting.now c.args.edge.now.entry.now k c.requires.entry c.requires.listed c.ignores.result c.ignores.ensures c.if-ignores.false in
    let read = c.requires.entry in
    rw (c.in_ok-clone.ensures.cases, c.in_ok-clone-2.ensures.cases) (c.requires.may.declared (loose (document_of b) b.setting.now c.args.edge.now.entry.now k h c.in_default.ensures.declared), (read.parent_read, (read.child_read, tt)))

pub returns-then-declared_at-clause-tried : goal.returns-then-declared_at-clause-tried
returns-then-declared_at-clause-tried c =
    let k = dep_kind_info_view c.args.edge.now.info.now in
    let d = c.in-Some.ensures.declared in
    let is = optional_declared c.args.edge.now.entry.now k c.in-Some.declared d.0 c.declared_at.result.now d.1 c.declared_at.ensures true c.if-declared_at.true in
    optional_tried c.args.context.now c.args.found.now c.args.edge.now.entry.now k c.args.trial.now.asked c.in-Some.declared d.0 c.agrees.ensures.distinct c.requires.entry d.1 c.if-not-trial.true is

pub returns-then-declared_at-clause-all_tried : goal.returns-then-declared_at-clause-all_tried
returns-then-declared_at-clause-all_tried c so = absurd (cc (so, c.if-not-trial.true))

pub returns-then-not-passes-clause-tried : goal.returns-then-not-passes-clause-tried
returns-then-not-passes-clause-tried c =
    let k = dep_kind_info_view c.args.edge.now.info.now in
    let d = c.in-Some.ensures.declared in
    barred_tried c.args.context.now c.args.found.now c.args.edge.now.entry.now k (TakenWhen c.args.trial.now.asked) c.in-Some.declared d.0 c.agrees.ensures.distinct c.requires.entry d.1
    (λ p. absurd (cc (c.in_ok-passes.ensures.1 p, c.if-not-passes.true)))

pub returns-then-not-passes-clause-whole : goal.returns-then-not-passes-clause-whole
returns-then-not-passes-clause-whole c so =
    let k = dep_kind_info_view c.args.edge.now.info.now in
    let d = c.in-Some.ensures.declared in
    barred_tried c.args.context.now c.args.found.now c.args.edge.now.entry.now k IsAny c.in-Some.declared d.0 c.agrees.ensures.distinct c.requires.entry d.1
    (λ p. absurd (cc (c.in_ok-passes.ensures.1 p, c.if-not-passes.true)))

pub returns-in-Excluded-clause-tried : goal.returns-in-Excluded-clause-tried
returns-in-Excluded-clause-tried c =
    let k = dep_kind_info_view c.args.edge.now.info.now in
    let d = c.in-Some.ensures.declared in
    left_out_tried c.args.context.now c.args.found.now c.args.edge.now.entry.now k (TakenWhen c.args.trial.now.asked) c.in-Some.declared d.0 c.agrees.ensures.distinct c.requires.entry d.1 (subst (HasAvailability c.args.context.now c.args.edge.now.entry.now) c.in-Excluded.is c.requires.availability)

pub returns-in-Excluded-clause-whole : goal.returns-in-Excluded-clause-whole
returns-in-Excluded-clause-whole c so =
    let k = dep_kind_info_view c.args.edge.now.info.now in
    let d = c.in-Some.ensures.declared in
    left_out_tried c.args.context.now c.args.found.now c.args.edge.now.entry.now k IsAny c.in-Some.declared d.0 c.agrees.ensures.distinct c.requires.entry d.1 (subst (HasAvailability c.args.context.now c.args.edge.now.entry.now) c.in-Excluded.is c.requires.availability)

pub keep-requires-clause-wanted : goal.keep-requires-clause-wanted
keep-requires-clause-wanted c =
    let b = c.args.context.now in
    let k = dep_kind_info_view c.args.edge.now.info.now in
    let d = c.in-Some.ensures.declared in
    let h = heeds (document_of b) b.setting.now c.args.edge.now.entry.now k c.requires.entry c.requires.listed c.ignores.result c.ignores.ensures c.if-ignores.false in
    (d.0, d.1, wanted (document_of b) b.setting.now c.args.edge.now.entry.now k c.in-Some.declared d.0 h d.1 (c.in_ok-passes.ensures.0 c.if-not-passes.false))

pub keep-requires-clause-may : goal.keep-requires-clause-may
keep-requires-clause-may c =
    let b = c.args.context.now in
    let k = dep_kind_info_view c.args.edge.now.info.now in
    let d = c.in-Some.ensures.declared in
    let taken = taken_here c.args.trial.now.asked d.0 (elim c.else-not-trial.branch [
      | else-not-trial-via-then-not-trial+else-declared_at w ↦ inr (optional_declared c.args.edge.now.entry.now k c.in-Some.declared d.0 w.declared_at.result.now d.1 w.declared_at.ensures false w.if-declared_at.false)
      | else-not-trial-via-else-not-trial w ↦ inl w.if-not-trial.false
    ]) in
    let h = heeds (document_of b) b.setting.now c.args.edge.now.entry.now k c.requires.entry c.requires.listed c.ignores.result c.ignores.ensures c.if-ignores.false in
    c.requires.may.kept d.0 (wanted (document_of b) b.setting.now c.args.edge.now.entry.now k c.in-Some.declared d.0 h d.1 (c.in_ok-passes.ensures.0 c.if-not-passes.false)) taken (subst (HasAvailability b c.args.edge.now.entry.now) c.in-Available.is c.requires.availability).0

pub keep-requires-clause-step : goal.keep-requires-clause-step
keep-requires-clause-step c =
    let b = c.args.context.now in
    let k = dep_kind_info_view c.args.edge.now.info.now in
    let d = c.in-Some.ensures.declared in
    let taken = taken_here c.args.trial.now.asked d.0 (elim c.else-not-trial.branch [
      | else-not-trial-via-then-not-trial+else-declared_at w ↦ inr (optional_declared c.args.edge.now.entry.now k c.in-Some.declared d.0 w.declared_at.result.now d.1 w.declared_at.ensures false w.if-declared_at.false)
      | else-not-trial-via-else-not-trial w ↦ inl w.if-not-trial.false
    ]) in
    let h = heeds (document_of b) b.setting.now c.args.edge.now.entry.now k c.requires.entry c.requires.listed c.ignores.result c.ignores.ensures c.if-ignores.false in
    c.requires.step d.0 (wanted (document_of b) b.setting.now c.args.edge.now.entry.now k c.in-Some.declared d.0 h d.1 (c.in_ok-passes.ensures.0 c.if-not-passes.false)) taken (subst (HasAvailability b c.args.edge.now.entry.now) c.in-Available.is c.requires.availability).0

pub returns-in_ok-clone-in-NoPackage-clause-refused : goal.returns-in_ok-clone-in-NoPackage-clause-refused
returns-in_ok-clone-in-NoPackage-clause-refused c =
    let b = c.args.context.now in
    let k = dep_kind_info_view c.args.edge.now.info.now in
    let d = c.in-Some.ensures.declared in
    let taken = taken_here c.args.trial.now.asked d.0 (elim c.else-not-trial.branch [
      | else-not-trial-via-then-not-trial+else-declared_at w ↦ inr (optional_declared c.args.edge.now.entry.now k c.in-Some.declared d.0 w.declared_at.result.now d.1 w.declared_at.ensures false w.if-declared_at.false)
      | else-not-trial-via-else-not-trial w ↦ inl w.if-not-trial.false
    ]) in
    let h = heeds (document_of b) b.setting.now c.args.edge.now.entry.now k c.requires.entry c.requires.listed c.ignores.result c.ignores.ensures c.if-ignores.false in
    let w = wanted (document_of b) b.setting.now c.args.edge.now.entry.now k c.in-Some.declared d.0 h d.1 (c.in_ok-passes.ensures.0 c.if-not-passes.false) in
    rw c.in_ok-clone-in-NoPackage.ensures.cases (c.requires.may.has_package d.0 w taken (subst (HasAvailability b c.args.edge.now.entry.now) c.in-NoPackage.is c.requires.availability), (c.requires.entry.child_read, tt))

pub returns-in_ok-clone-in-NoNode-clause-refused : goal.returns-in_ok-clone-in-NoNode-clause-refused
returns-in_ok-clone-in-NoNode-clause-refused c =
    let b = c.args.context.now in
    let k = dep_kind_info_view c.args.edge.now.info.now in
    let d = c.in-Some.ensures.declared in
    let taken = taken_here c.args.trial.now.asked d.0 (elim c.else-not-trial.branch [
      | else-not-trial-via-then-not-trial+else-declared_at w ↦ inr (optional_declared c.args.edge.now.entry.now k c.in-Some.declared d.0 w.declared_at.result.now d.1 w.declared_at.ensures false w.if-declared_at.false)
      | else-not-trial-via-else-not-trial w ↦ inl w.if-not-trial.false
    ]) in
    let h = heeds (document_of b) b.setting.now c.args.edge.now.entry.now k c.requires.entry c.requires.listed c.ignores.result c.ignores.ensures c.if-ignores.false in
    let w = wanted (document_of b) b.setting.now c.args.edge.now.entry.now k c.in-Some.declared d.0 h d.1 (c.in_ok-passes.ensures.0 c.if-not-passes.false) in
    rw c.in_ok-clone-in-NoNode.ensures.cases (c.requires.may.has_node d.0 w taken (subst (HasAvailability b c.args.edge.now.entry.now) c.in-NoNode.is c.requires.availability), (c.requires.entry.child_read, tt))

pub returns-in_ok-keep-in-Available-clause-tried : goal.returns-in_ok-keep-in-Available-clause-tried
returns-in_ok-keep-in-Available-clause-tried c =
    let b = c.args.context.now in
    let k = dep_kind_info_view c.args.edge.now.info.now in
    let d = c.in-Some.ensures.declared in
    let there = subst (HasAvailability b c.args.edge.now.entry.now) c.in-Available.is c.requires.availability in
    kept_tried b c.keep.new.found c.args.edge.now.entry.now k (TakenWhen c.args.trial.now.asked) c.in-Some.declared d.0 c.agrees.ensures.distinct c.requires.entry d.1 there.0 c.in_ok-keep-in-Available.ensures.kept

pub returns-in_ok-keep-in-Available-clause-whole : goal.returns-in_ok-keep-in-Available-clause-whole
returns-in_ok-keep-in-Available-clause-whole c so =
    let b = c.args.context.now in
    let k = dep_kind_info_view c.args.edge.now.info.now in
    let d = c.in-Some.ensures.declared in
    let there = subst (HasAvailability b c.args.edge.now.entry.now) c.in-Available.is c.requires.availability in
    kept_tried b c.keep.new.found c.args.edge.now.entry.now k IsAny c.in-Some.declared d.0 c.agrees.ensures.distinct c.requires.entry d.1 there.0 c.in_ok-keep-in-Available.ensures.kept

pub keep-requires-clause-node : goal.keep-requires-clause-node
keep-requires-clause-node c = (subst (HasAvailability c.args.context.now c.args.edge.now.entry.now) c.in-Available.is c.requires.availability).1
