use Rattle.std.proofs.Common.{◌≡◌, ◌<◌, ◌∙◌, All, [], ap, arith, length, subst, sym}
use Rattle.std.proofs.lemmas.List.{drop_all}
use Rattle.std.proofs.lemmas.List.Elements.{All-rest}
use Rattle.std.specs.List.{cons_option}
use Rattle.krates_queries.specs.Direct.{targets_of}
use Rattle.krates_queries.proofs.queries.direct.DepsIterator.next.Goals as goal

pub dep_by-dep-requires : goal.dep_by-dep-requires
dep_by-dep-requires g c = record {
  stands = subst (All (λ number. number < length c.self.inside.edges.now)) c.in-Some.ensures.cases.0 c.self.invariant.1 0 c.in-Some.id.now (omega arith);
  ends = c.self.invariant.0;
}

pub invariant_of-self : goal.invariant_of-self
invariant_of-self g c = (
  c.self.invariant.0,
  All-rest (λ number. number < length c.self.inside.edges.now) c.in-Some.id.now c.in-Some.rest.now c.self.inside.left.now c.in-Some.ensures.cases.0 c.self.invariant.1,
)

pub returns-clause-steps : goal.returns-clause-steps
returns-clause-steps g c =
    let targets = targets_of c.self.inside.nodes.now c.self.inside.edges.now in
    sym c.self.view_is ∙ ap targets c.in-Some.ensures.cases.0 ∙ ap (λ target. cons_option target (targets c.in-Some.rest.now)) c.dep_by-dep.ensures

pub returns-clause-goes : goal.returns-clause-goes
returns-clause-goes g c = rw (returns-clause-steps g c) (record { on = λ finite. (tt, tt, omega arith); keeps = tt; rests = λ finite. tt })

pub returns-in_default : goal.returns-in_default
returns-in_default g c =
    let targets = targets_of c.self.inside.nodes.now c.self.inside.edges.now in
    let none : c.args.self.now ≡ [] = sym c.self.view_is ∙ ap targets (drop_all 0 c.self.inside.left.now (omega (arith, c.in_default.ensures.cases))) in
    record { steps = (none, none); goes = record { on = λ finite. tt; keeps = tt; rests = λ finite. tt } }
