use Rattle.std.proofs.Common.{take}
use Rattle.std.specs.Fmt.{HasWritten, IsPlainFormatter}
use Rattle.std.specs.List.{flat_map}
use Rattle.krates_foreign.specs.StoredLines.{stored_node_line}
use Rattle.krates_foreign.proofs.drawn_lines.NodeLinesDisplay.fmt.Given as goal

-- the lines of the nodes so far
abbrev pub invariant-loop-node : goal.invariant-loop-node
invariant-loop-node g l =
    IsPlainFormatter l.fn.f → HasWritten g.W.Write.write_str_gives l.fn.f (flat_map stored_node_line (take l.node-index l.self.0.now)) l.f
