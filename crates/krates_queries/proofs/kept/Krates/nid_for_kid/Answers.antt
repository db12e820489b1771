use Rattle.std.proofs.Common.{◌≡◌, ◌<◌, ℕ, Some, length, arith, refl, ap}
use Rattle.krates_rules.specs.Resolved.{id_of}
use Rattle.krates_drawing.specs.Node.{crate_ids}
use Rattle.krates_rules.proofs.OrderedIds.{stands_within}
use Rattle.krates_queries.proofs.kept.Krates.nid_for_kid.Goals as goal

pub overflow_cast-number : goal.overflow_cast-number
overflow_cast-number g c =
    let nodes = c.nodes.result.now in
    let within : c.in-Some.number < length (crate_ids nodes) = stands_within (crate_ids nodes) (id_of c.args.kid.now) c.in-Some.number ((c.in-Some.ensures c.in-Some.number).0 refl) in
    omega (arith, within, c.nodes.ensures.are.ordered.numbered)

pub returns-in-Some : goal.returns-in-Some
returns-in-Some g c n =
    let nodes = c.nodes.result.now in
    let same : nodes ≡ c.args.self.now.graph.nodes = c.nodes.ensures.nodes in (
      λ e. (let is : c.in-Some.number ≡ n = cc (e, c.new.ensures) in rw (← same) ((c.in-Some.ensures n).0 (ap (λ (k : ℕ). Some k) is))),
      λ h. (let is = (c.in-Some.ensures n).1 (rw same h) in cc (is, c.new.ensures)),
    )

pub returns-in-None : goal.returns-in-None
returns-in-None g c n =
    let nodes = c.nodes.result.now in
    let same : nodes ≡ c.args.self.now.graph.nodes = c.nodes.ensures.nodes in (
      λ e. absurd cc,
      λ h. (let is = (c.in-None.ensures n).1 (rw same h) in absurd cc),
    )
