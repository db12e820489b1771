use Rattle.std.proofs.Common.{subst}
use Rattle.std.proofs.lemmas.Result.{IfOk-weaker}
use Rattle.krates_drawing.specs.Node.{CratesFirst}
use Rattle.krates_build_tests.proofs.Listed.{holds_rebuilt}
use Rattle.krates_build_tests.proofs.rebuilt.filtered_beside.Goals as goal

pub returns : goal.returns
returns g c =
    let first = subst (λ x. CratesFirst x.nodes) c.graph.ensures.graph c.graph.ensures.first in
    IfOk-weaker c.krates_filtered.result _ _ (λ found r. holds_rebuilt c.filtered_holds_rebuild.ensures c.narrowing.ensures.part c.connected.ensures c.args.kind c.args.krates.now c.args.rebuilt.now _ first r) c.krates_filtered.ensures
