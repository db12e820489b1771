use Rattle.std.proofs.Common.{◌≡◌, ℕ, Some, None, option_map, arith, refl, ap}
use Rattle.krates_rules.specs.Resolved.{id_of}
use Rattle.krates_queries.proofs.NodeLemmas.{enabled_told, number_among}
use Rattle.krates_queries.proofs.kept.Krates.get_node.Goals as goal

pub number_in-requires-clause-starts : goal.number_in-requires-clause-starts
number_in-requires-clause-starts g c = rw c.nodes-nodes.ensures.nodes c.starts.ensures.starts

pub overflow_cast-number : goal.overflow_cast-number
overflow_cast-number g c =
    let within = number_among c.nodes-nodes.result.now (id_of c.args.kid.now) (option_map (λ name. name.now) c.args.feature) c.in-Some.number ((c.in-Some.ensures c.in-Some.number).0 refl) in
    omega (arith, within, c.nodes-nodes.ensures.are.numbered)

pub standing_at-requires : goal.standing_at-requires
standing_at-requires g c = number_among c.nodes-nodes.result.now (id_of c.args.kid.now) (option_map (λ name. name.now) c.args.feature) c.in-Some.number ((c.in-Some.ensures c.in-Some.number).0 refl)

pub returns-in-Some-clause-number : goal.returns-in-Some-clause-number
returns-in-Some-clause-number g c n =
    let same : c.nodes-nodes.result.now ≡ c.args.self.now.graph.nodes = c.nodes-nodes.ensures.nodes in (
      λ e. (let is : c.in-Some.number ≡ n = cc (e, c.new.ensures) in rw (← same) ((c.in-Some.ensures n).0 (ap (λ (k : ℕ). Some k) is))),
      λ h. (let is = (c.in-Some.ensures n).1 (rw same h) in cc (is, c.new.ensures)),
    )

pub returns-in-Some-clause-enabled : goal.returns-in-Some-clause-enabled
returns-in-Some-clause-enabled g c =
    let same : c.nodes-nodes.result.now ≡ c.args.self.now.graph.nodes = c.nodes-nodes.ensures.nodes in
    rw (← same) (enabled_told c.nodes-nodes.result.now (id_of c.args.kid.now) (λ name. name.now) c.args.feature (Some c.in-Some.number) c.nodes-nodes.ensures.are c.in-Some.ensures)

pub returns-in-None-clause-number : goal.returns-in-None-clause-number
returns-in-None-clause-number g c n =
    let same : c.nodes-nodes.result.now ≡ c.args.self.now.graph.nodes = c.nodes-nodes.ensures.nodes in (
      λ e. absurd cc,
      λ h. (let none = (c.in-None.ensures n).1 (rw same h) in absurd cc),
    )

pub returns-in-None-clause-enabled : goal.returns-in-None-clause-enabled
returns-in-None-clause-enabled g c =
    let same : c.nodes-nodes.result.now ≡ c.args.self.now.graph.nodes = c.nodes-nodes.ensures.nodes in
    rw (← same) (enabled_told c.nodes-nodes.result.now (id_of c.args.kid.now) (λ name. name.now) c.args.feature None c.nodes-nodes.ensures.are c.in-None.ensures)
