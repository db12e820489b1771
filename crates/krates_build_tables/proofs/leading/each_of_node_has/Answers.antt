use Rattle.std.proofs.Common.{sym, arith}
use Rattle.krates_cm.specs.Document.{dependency_view}
use Rattle.krates_questions.specs.Lookup.{resolved_view}
use Rattle.krates_questions.proofs.NodeParts.{deps_long, entry_here, own_long}
use Rattle.krates_build_tables.proofs.ChildFeatures.{each_here, each_next, each_whole, each_zero}
use Rattle.krates_build_tables.proofs.leading.each_of_node_has.Goals as goal

pub entry_at-requires-clause-lengths : goal.entry_at-requires-clause-lengths
entry_at-requires-clause-lengths c = sym (deps_long (resolved_view c.args.document.now) c.args.parts.now.place.index c.args.parts.now c.requires)

pub entry_at-requires-clause-versions : goal.entry_at-requires-clause-versions
entry_at-requires-clause-versions c = own_long (resolved_view c.args.document.now) c.args.parts.now.place.index c.args.parts.now c.requires

pub child_has-requires : goal.child_has-requires
child_has-requires c = entry_here (resolved_view c.args.document.now) c.args.parts.now.place.index c.args.parts.now c.loop-index.index c.entry_at.result c.requires c.entry_at.ensures

pub loop-index-init : goal.loop-index-init
loop-index-init c = each_zero (resolved_view c.args.document.now) c.args.parts.now (dependency_view c.args.declared.now) c.args.feature.now

pub loop-index-preserved : goal.loop-index-preserved
loop-index-preserved c =
    each_next (resolved_view c.args.document.now) c.args.parts.now (dependency_view c.args.declared.now) c.args.feature.now c.loop-index.index c.entry_at.result c.entry_at.ensures (c.child_has.ensures.0 c.if-not-child_has.false) c.loop-index.invariant

pub returns-then-not-child_has : goal.returns-then-not-child_has
returns-then-not-child_has c =
    let r = resolved_view c.args.document.now in
    let d = dependency_view c.args.declared.now in (
      λ t. absurd cc,
      λ each. absurd (cc (c.child_has.ensures.1 (each_here r c.args.parts.now.place.index c.args.parts.now d c.args.feature.now c.loop-index.index c.entry_at.result c.requires c.entry_at.ensures each), c.if-not-child_has.true)),
    )

pub returns : goal.returns
returns c =
    let r = resolved_view c.args.document.now in
    let d = dependency_view c.args.declared.now in
    (λ t. each_whole c.one_reading.ensures.once r c.args.parts.now.place.index c.args.parts.now d c.args.feature.now c.loop-index.index c.agrees.ensures.distinct c.requires (omega arith) c.loop-index.invariant, λ each. cc)
