use Rattle.std.proofs.Common.{◌≡◌, map}
use Rattle.krates_answers.specs.Tree.{root_line, roots_among}
use Rattle.krates_answers.proofs.direct_links.DirectLinks.root_lines.Given as goal

abbrev pub invariant-loop-root : goal.invariant-loop-root
invariant-loop-root l = l.lines.items ≡ map root_line (roots_among l.self (map (λ root. root.now) l.yielded))
