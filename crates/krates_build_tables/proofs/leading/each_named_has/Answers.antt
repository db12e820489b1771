use Rattle.std.proofs.Common.{◌≡◌, arith, refl, rules, sym, ◌∙◌}
use Rattle.krates_cm.specs.Document.{DependencyModel, dependency_view}
use Rattle.krates_cm.specs.declared.dependency.Dependency.{Dependency}
use Rattle.krates_questions.specs.Lookup.{resolved_view}
use Rattle.krates_rules.specs.DeclaredDependency.{declared_name}
use Rattle.krates_rules.specs.Resolved.{id_of}
use Rattle.krates_rules.proofs.Elements.{contains_read}
use Rattle.krates_rules.proofs.Seen.{each_seen, seen_more}
use Rattle.krates_build_tables.specs.Leading.{EachHas}
use Rattle.krates_build_tables.specs.Pairs.{PairsFor}
use Rattle.krates_build_tables.proofs.ChildFeatures.{named_here, named_whole}
use Rattle.krates_build_tables.proofs.TakenReferences.{eq_texts, false-true}
use Rattle.krates_build_tables.proofs.leading.each_named_has.Goals.{else-eq-via-then-eq+else-not-each_child_has, else-eq-via-else-eq}
use Rattle.krates_build_tables.proofs.leading.each_named_has.Goals as goal

pub returns-then-not-each_child_has : goal.returns-then-not-each_child_has
returns-then-not-each_child_has c =
    let r = resolved_view c.args.document.now in
    let i = id_of c.args.krate.now in
    let d = dependency_view c.declared-item.result in
    let among = contains_read dependency_view c.declared_by-declared-items.result.now c.loop-declared.declared-index c.declared-item.result (omega arith) c.declared-item.is in
    let declared = (c.declared_by-declared-items.ensures d).1 among in
    let named : declared_name d ≡ c.args.name.now = search rules in (
      λ t. absurd cc,
      λ each. absurd (cc (c.each_child_has.ensures.1 (named_here r i c.args.name.now c.args.feature.now d declared named each), c.if-not-each_child_has.true)),
    )

pub loop-declared-preserved : goal.loop-declared-preserved
loop-declared-preserved c =
    let r = resolved_view c.args.document.now in
    let i = id_of c.args.krate.now in
    let name = c.args.name.now in
    seen_more (λ (d : Dependency). declared_name (dependency_view d) ≡ name → EachHas r c.args.feature.now (PairsFor r i (dependency_view d))) c.declared_by-declared-items.result.now c.loop-declared.declared-index c.declared-item.result (omega arith) c.declared-item.is c.loop-declared.invariant
    (λ named. elim c.else-eq.branch [
      | else-eq-via-then-eq+else-not-each_child_has w ↦ w.each_child_has.ensures.0 w.if-not-each_child_has.false
      | else-eq-via-else-eq w ↦ absurd (false-true (sym w.if-eq.false ∙ c.eq.ensures ∙ eq_texts c.declared_name.result.now name (c.declared_name.ensures ∙ named)))
    ])

pub returns : goal.returns
returns c =
    let r = resolved_view c.args.document.now in
    let i = id_of c.args.krate.now in
    let name = c.args.name.now in
    let f = c.args.feature.now in
    let ds = c.declared_by-declared-items.result.now in
    let each = each_seen dependency_view (λ (d : DependencyModel). declared_name d ≡ name → EachHas r f (PairsFor r i d)) ds ds c.loop-declared.declared-index refl (omega arith) c.loop-declared.invariant in
    (λ t. named_whole r i name f (λ d declared named. each d ((c.declared_by-declared-items.ensures d).0 declared) named), λ h. refl)
