use Rattle.std.proofs.Common.{◌≡◌, ◌∙◌, ◌↔◌, ◌<◌, ◌^◌, ℕ, List, Contains, arith, subst}
use Rattle.std.proofs.lemmas.List.Elements.{All-weaker}
use Rattle.krates_queries.proofs.queries.reached.nodes_put.Goals as goal

pub as_nodes-requires : goal.as_nodes-requires
as_nodes-requires c =
    All-weaker (λ n. n < c.args.agenda.now.size) (λ n. n < 2 ^ 32) (λ n lt. omega (arith, lt, c.requires))
    c.numbers.result.now (rw c.numbers.ensures.put c.numbers.ensures.orderly.below)

pub returns-clause-same : goal.returns-clause-same
returns-clause-same c n =
    let put : c.in_ok-as_nodes.field-0.items ≡ c.args.agenda.now.put = c.in_ok-as_nodes.ensures ∙ c.numbers.ensures.put in
    subst (λ (ns : List ℕ). Contains c.sorted_once.result.items n ↔ Contains ns n) put (c.sorted_once.ensures.same n)
