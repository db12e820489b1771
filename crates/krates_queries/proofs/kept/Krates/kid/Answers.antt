use Rattle.std.proofs.Common.{◌≡◌, ◌∙◌, ℕ, List, Option, option_map, slice_get, ap, sym, subst}
use Rattle.std.specs.Prelude.{IsSome}
use Rattle.krates_drawing.specs.declared.node.Node.{Node}
use Rattle.krates_ids.specs.Identity.{Identity}
use Rattle.krates_queries.specs.Numbers.{id_in, kid_at}
use Rattle.krates_queries.proofs.NodeLemmas.{kid_there, some_lent}
use Rattle.krates_queries.proofs.kept.Krates.kid.Goals as goal

pub returns-clause-id : goal.returns-clause-id
returns-clause-id g c =
    c.id_at.ensures ∙ ap (λ (k : ℕ). id_in (slice_get c.nodes-nodes.result.now k)) (c.index.ensures ∙ c.home_of.ensures)
    ∙ ap (λ (ns : List (Node g.row.N.Denot)). kid_at ns c.args.node) c.nodes-nodes.ensures.nodes

pub returns-clause-there : goal.returns-clause-there
returns-clause-there g c =
    let nodes = c.nodes-nodes.result.now in
    let is : option_map (λ kid. kid.now) c.id_at.result ≡ kid_at nodes c.args.node = c.id_at.ensures ∙ ap (λ (k : ℕ). id_in (slice_get nodes k)) (c.index.ensures ∙ c.home_of.ensures) in
    let there = kid_there nodes c.args.node c.nodes-nodes.ensures.are in
    let some = some_lent (λ kid. kid.now) c.id_at.result in
    rw (← c.nodes-nodes.ensures.nodes) (
      λ h. there.0 (subst (λ (o : Option Identity). IsSome o) is (some.1 h)),
      λ lt. some.0 (subst (λ (o : Option Identity). IsSome o) (sym is) (there.1 lt)),
    )
