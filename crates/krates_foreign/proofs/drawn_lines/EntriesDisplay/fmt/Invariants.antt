use Rattle.std.proofs.Common.{take}
use Rattle.std.specs.Fmt.{HasWritten, IsPlainFormatter}
use Rattle.std.specs.List.{flat_map}
use Rattle.krates_foreign.specs.DrawnLines.{entry_text}
use Rattle.krates_foreign.proofs.drawn_lines.EntriesDisplay.fmt.Given as goal

-- the entries so far
abbrev pub invariant-loop-entry : goal.invariant-loop-entry
invariant-loop-entry g l =
    IsPlainFormatter l.fn.f → HasWritten g.W.Write.write_str_gives l.fn.f (flat_map entry_text (take l.entry-index l.self.0.now)) l.f
