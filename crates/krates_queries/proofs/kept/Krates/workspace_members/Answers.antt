use Rattle.std.proofs.Common.{◌<◌, length, get_or, arith, sym, subst}
use Rattle.krates_drawing.specs.Node.{crate_ids}
use Rattle.krates_queries.proofs.NodeLemmas.{crates_within}
use Rattle.krates_queries.proofs.kept.Krates.workspace_members.Goals as goal

pub invariant_of-result : goal.invariant_of-result
invariant_of-result g c k d lt =
    let nodes = c.args.self.now.graph.nodes in
    let here : get_or c.members.result.now k d < length (crate_ids nodes) = c.members.ensures.crates.crates k d lt in
    let few = crates_within nodes in
    subst (λ ns. get_or c.members.result.now k d < length ns) (sym c.nodes.ensures.nodes) (omega (arith, here, few))
