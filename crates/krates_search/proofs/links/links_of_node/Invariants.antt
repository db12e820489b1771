use Rattle.std.proofs.Common.{◌≡◌, length}
use Rattle.std.specs.List.{All}
use Rattle.krates_search.specs.Links.{IsNewLink}
use Rattle.krates_search.proofs.links.links_of_node.Given as goal

-- one new link for each dependency so far
abbrev pub invariant-loop : goal.invariant-loop
invariant-loop l = (length l.links.items ≡ l.index) × All IsNewLink l.links.items
