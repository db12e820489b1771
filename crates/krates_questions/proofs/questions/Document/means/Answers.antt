use Rattle.std.proofs.Common.{Bool, false, sym, subst, ◌∙◌, ◌↔◌, IsTrue}
use Rattle.krates_questions.specs.Lookup.{resolved_view}
use Rattle.krates_rules.specs.Referent.{IsReferent}
use Rattle.krates_rules.specs.Resolved.{id_of}
use Rattle.krates_questions.proofs.AllReferents.{answering_told}
use Rattle.krates_questions.proofs.OneReferent.{one_referent}
use Rattle.krates_questions.proofs.questions.Document.means.Goals as goal

pub returns-in-Some : goal.returns-in-Some
returns-in-Some c =
    let r = resolved_view c.args.self.now in
    let all = sym c.is_all_named.ensures ∙ c.if-is_all_named.true in
    let told = answering_told r (id_of c.args.krate.now) (id_of c.args.child.now) c.args.name.now c.in-Some.entry c.answers_to.result c.agrees.ensures.distinct c.in-Some.ensures c.answers_to.ensures in
    subst (λ (b : Bool). IsTrue c.answers_to.result ↔ IsReferent r b (id_of c.args.krate.now) c.args.name.now (id_of c.args.child.now)) (sym all) told

pub returns-in-None : goal.returns-in-None
returns-in-None c =
    let all = sym c.is_all_named.ensures ∙ c.if-is_all_named.true in (
      λ t. absurd cc,
      λ h. (
          let is = subst (λ (b : Bool). IsReferent (resolved_view c.args.self.now) b (id_of c.args.krate.now) c.args.name.now (id_of c.args.child.now)) all h in
          absurd (c.in-None.ensures is.is_named.node is.is_named.dep is.is_named.has_node is.is_named.has_dep)),
    )

pub returns-in-Some-referent : goal.returns-in-Some-referent
returns-in-Some-referent c =
    let all = sym c.is_all_named.ensures ∙ c.if-is_all_named.false in
    let r = resolved_view c.args.self.now in
    let i = id_of c.args.krate.now in
    let name = c.args.name.now in
    let told : IsTrue c.is_same.result ↔ IsReferent r false i name (id_of c.args.child.now) = (
      λ t. subst (IsReferent r false i name) (c.is_same.ensures.0 t) c.in-Some-referent.ensures,
      λ is. c.is_same.ensures.1 (one_referent r i name (id_of c.in-Some-referent.referent.now) (id_of c.args.child.now) c.in-Some-referent.ensures is),
    ) in
    subst (λ (b : Bool). IsTrue c.is_same.result ↔ IsReferent r b i name (id_of c.args.child.now)) (sym all) told

pub returns-in-None-referent : goal.returns-in-None-referent
returns-in-None-referent c =
    let all = sym c.is_all_named.ensures ∙ c.if-is_all_named.false in
    (λ t. absurd cc, λ is. absurd (c.in-None-referent.ensures (id_of c.args.child.now) (subst (λ (b : Bool). IsReferent (resolved_view c.args.self.now) b (id_of c.args.krate.now) c.args.name.now (id_of c.args.child.now)) all is)))
