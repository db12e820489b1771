use Rattle.std.proofs.Common.{◌≡◌, ℕ, List, Bor, map, string_bytes}
use Rattle.krates_foreign.proofs.asked.words_in.Given as goal

-- the words are the lines so far
abbrev pub invariant-loop-line : goal.invariant-loop-line
invariant-loop-line l = goal.iterator-loop-line.can_next l.line-iterator
    × goal.iterator-loop-line.is_finite l.line-iterator
    × (map string_bytes l.words.items ≡ map (λ (line : Bor (List ℕ)). line.now) l.yielded)
