use Rattle.std.proofs.Common.{◌≡◌, ◌<◌, ◌∙◌, All, [], ap, arith, length, slice_get, subst, sym}
use Rattle.std.proofs.lemmas.List.{drop_all}
use Rattle.std.proofs.lemmas.List.Elements.{All-rest}
use Rattle.std.specs.List.{cons_option}
use Rattle.krates_queries.specs.KrateNodes.{nodes_at}
use Rattle.krates_queries.proofs.queries.krate_nodes.MembersIterator.next.Goals as goal

pub standing_at-node-requires : goal.standing_at-node-requires
standing_at-node-requires g c =
    rw c.index.ensures (subst (All (λ number. number < length c.self.inside.nodes.now)) c.in-Some.ensures.cases.0 c.self.invariant 0 c.in-Some.number.now (omega arith))

pub invariant_of-self : goal.invariant_of-self
invariant_of-self g c =
    All-rest (λ number. number < length c.self.inside.nodes.now) c.in-Some.number.now c.in-Some.rest.now c.self.inside.left.now
    c.in-Some.ensures.cases.0 c.self.invariant

pub returns-clause-steps : goal.returns-clause-steps
returns-clause-steps g c =
    let nodes = c.self.inside.nodes.now in
    sym c.self.view_is ∙ ap (nodes_at nodes) c.in-Some.ensures.cases.0
    ∙ ap (λ node. cons_option node (nodes_at nodes c.in-Some.rest.now)) (ap (slice_get nodes) (sym c.index.ensures) ∙ c.standing_at-node.ensures)

pub returns-clause-goes : goal.returns-clause-goes
returns-clause-goes g c = rw (returns-clause-steps g c) (record { on = λ finite. (tt, tt, omega arith); keeps = tt; rests = λ finite. tt })

pub returns-in_default : goal.returns-in_default
returns-in_default g c =
    let none : c.args.self.now ≡ [] = sym c.self.view_is ∙ ap (nodes_at c.self.inside.nodes.now) (drop_all 0 c.self.inside.left.now (omega (arith, c.in_default.ensures.cases))) in
    record { steps = (none, none); goes = record { on = λ finite. tt; keeps = tt; rests = λ finite. tt } }
