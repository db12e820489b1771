use Rattle.std.proofs.Common.{[], ◌∷◌, ◌++◌, List, sym, ap, ◌∙◌, arith}
use Rattle.std.proofs.lemmas.List.{take_all}
use Rattle.krates_drawing.specs.Node.{crate_ids}
use Rattle.krates_ids.specs.Identity.{Identity}
use Rattle.krates_queries.proofs.NodeLemmas.{ids_more}
use Rattle.krates_queries.proofs.numbers.lent_ids.Goals as goal

pub loop-node-preserved : goal.loop-node-preserved
loop-node-preserved g c =
    let x = c.node-item.result in
    c.in_ok-push_id.ensures ∙ ap (λ (is : List Identity). is ++ crate_ids (x ∷ [])) c.loop-node.invariant ∙ sym (ids_more c.args.nodes.now c.loop-node.node-index x c.loop-node-test.true c.node-item.is)

pub returns : goal.returns
returns g c = c.loop-node.invariant ∙ ap crate_ids (take_all c.loop-node.node-index c.args.nodes.now (omega arith))
