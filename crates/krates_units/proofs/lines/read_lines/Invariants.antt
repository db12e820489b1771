use Rattle.std.proofs.Common.{ℕ, List, Bor, map, string_bytes}
use Rattle.krates_text.specs.CfgHolding.{pair_bytes}
use Rattle.krates_units.specs.RustcLines.{LinesSay}
use Rattle.krates_units.proofs.lines.read_lines.Given as goal

-- what the lines so far say
abbrev pub invariant-loop-line : goal.invariant-loop-line
invariant-loop-line l = goal.iterator-loop-line.can_next l.line-iterator
    × goal.iterator-loop-line.is_finite l.line-iterator
    × LinesSay (map (λ (line : Bor (List ℕ)). line.now) l.yielded) (map string_bytes l.words.items) (map pair_bytes l.pairs.items)
