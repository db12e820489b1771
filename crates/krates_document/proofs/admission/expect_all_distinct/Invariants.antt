use Rattle.std.proofs.Common.{map, take}
use Rattle.std.specs.List.{AllByRecursion}
use Rattle.krates_rules.specs.DistinctIds.{AreDistinct}
use Rattle.krates_document.proofs.admission.expect_all_distinct.Given as goal

-- no id occurs twice in any list so far
abbrev pub invariant-loop-kids : goal.invariant-loop-kids
invariant-loop-kids l = AllByRecursion AreDistinct (map (λ kids. kids.items) (take l.kids-index l.lists))
