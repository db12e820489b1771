use Rattle.std.proofs.Common.{rules}
use Rattle.std.proofs.lemmas.Grind.{put_two}
use Rattle.krates_foreign.specs.StoredLines.{stored_node_line}
use Rattle.krates_foreign.proofs.LineLemmas.{pieces_more}
use Rattle.krates_foreign.proofs.drawn_lines.NodeLinesDisplay.fmt.Goals as goal

pub loop-node-preserved : goal.loop-node-preserved
loop-node-preserved g c = λ plain.
    let node = c.node-item.result in
    put_two _ _ _ _ _ (stored_node_line node) _ (c.loop-node.invariant plain) (search rules) (pieces_more stored_node_line c.args.self.now.0.now c.loop-node.node-index node c.loop-node-test.true c.node-item.is)
