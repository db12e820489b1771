use Rattle.std.proofs.Common.{take}
use Rattle.std.specs.Fmt.{HasWritten, IsPlainFormatter}
use Rattle.std.specs.List.{flat_map}
use Rattle.krates_foreign.specs.StoredLines.{stored_line}
use Rattle.krates_foreign.proofs.drawn_lines.EdgeLinesDisplay.fmt.Given as goal

-- the lines of the edges so far
abbrev pub invariant-loop-edge : goal.invariant-loop-edge
invariant-loop-edge g l =
    IsPlainFormatter l.fn.f → HasWritten g.W.Write.write_str_gives l.fn.f (flat_map stored_line (take l.edge-index l.self.0.now)) l.f
