use Rattle.std.proofs.Common.{◌≡◌, ◌++◌, string_bytes}
use Rattle.krates_cli.specs.Lines.{listed_lines}
use Rattle.krates_cli.proofs.lines.all_lines.Given as goal

abbrev pub invariant-loop-listed : goal.invariant-loop-listed
invariant-loop-listed l =
    goal.iterator-loop-listed.can_next l.listed-iterator
    × (string_bytes l.lines ++ listed_lines l.listed-iterator ≡ listed_lines l.initial.listed-iterator)
