use Rattle.std.proofs.Common.{◌≡◌, Some, rules, sym, ◌∙◌}
use Rattle.krates_questions.specs.Lookup.{resolved_view}
use Rattle.krates_rules.specs.Resolved.{id_of}
use Rattle.krates_build_tables.specs.References.{reference_view}
use Rattle.krates_build_tables.specs.RequestsTaken.{feature_parts}
use Rattle.krates_build_tables.proofs.TakenReferences.{takes_of_dependency, takes_by_crate, takes_no_feature, eq_texts, false-true}
use Rattle.krates_build_tables.proofs.taken.taken_alike.Goals.{else-eq-via-then-eq+else-may_ask, else-eq-via-else-eq}
use Rattle.krates_build_tables.proofs.taken.taken_alike.Goals as goal

pub returns-then-knows_name : goal.returns-then-knows_name
returns-then-knows_name c =
    let v = reference_view c.args.given in
    let e : feature_parts v ≡ Some (c.in-Some.name.now, c.in-Some.feature.now) = search rules in
    takes_of_dependency (resolved_view c.args.document.now) (id_of c.args.id.now) v c.in-Some.name.now c.in-Some.feature.now e (c.knows_name.ensures.0 c.if-knows_name.true)

pub returns-then-may_ask : goal.returns-then-may_ask
returns-then-may_ask c =
    let v = reference_view c.args.given in
    let e : feature_parts v ≡ Some (c.in-Some.name.now, c.in-Some.feature.now) = search rules in
    let named : c.args.id.now.name ≡ c.in-Some.name.now = search rules in
    takes_by_crate (resolved_view c.args.document.now) (id_of c.args.id.now) v c.in-Some.name.now c.in-Some.feature.now e
    (λ knows. absurd (cc (c.knows_name.ensures.1 knows, c.if-knows_name.false))) named (c.may_ask.ensures.0 c.if-may_ask.true)

pub returns : goal.returns
returns c =
    let v = reference_view c.args.given in
    let e : feature_parts v ≡ Some (c.in-Some.name.now, c.in-Some.feature.now) = search rules in
    takes_no_feature (resolved_view c.args.document.now) (id_of c.args.id.now) v c.in-Some.name.now c.in-Some.feature.now e
    (λ knows. absurd (cc (c.knows_name.ensures.1 knows, c.if-knows_name.false))) (λ named may. elim c.else-eq.branch [
      | else-eq-via-then-eq+else-may_ask w ↦ absurd (cc (w.may_ask.ensures.1 may, w.if-may_ask.false))
      | else-eq-via-else-eq w ↦ absurd (false-true (sym w.if-eq.false ∙ c.eq.ensures ∙ eq_texts c.name.result.now c.in-Some.name.now (c.name.ensures ∙ named)))
    ])
