use Rattle.std.proofs.Common.{◌≡◌, ◌++◌, map}
use Rattle.krates_answers.specs.Tree.{line_below}
use Rattle.krates_answers.proofs.direct_links.DirectLinks.push_below.Given as goal

abbrev pub invariant-loop-number : goal.invariant-loop-number
invariant-loop-number l = l.waiting.items ≡ l.fn.waiting.items ++ map (line_below l.line) (map (λ number. number.now) l.yielded)
