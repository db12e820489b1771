use Rattle.std.proofs.Common.{rules}
use Rattle.std.proofs.lemmas.Grind.{put_two}
use Rattle.krates_foreign.specs.StoredLines.{stored_line}
use Rattle.krates_foreign.proofs.LineLemmas.{pieces_more}
use Rattle.krates_foreign.proofs.drawn_lines.EdgeLinesDisplay.fmt.Goals as goal

pub loop-edge-preserved : goal.loop-edge-preserved
loop-edge-preserved g c = λ plain.
    let edge = c.edge-item.result in
    put_two _ _ _ _ _ (stored_line edge) _ (c.loop-edge.invariant plain) (search rules) (pieces_more stored_line c.args.self.now.0.now c.loop-edge.edge-index edge c.loop-edge-test.true c.edge-item.is)
