use Rattle.std.proofs.Common.{map, take}
use Rattle.krates_build_facts.specs.FactModels.{fact_view}
use Rattle.krates_built.specs.FactLists.{AreListsOf}
use Rattle.krates_built.proofs.lists.lists_of.Given as goal

-- the lists have what the facts so far say
abbrev pub invariant-loop-fact : goal.invariant-loop-fact
invariant-loop-fact l = AreListsOf (map fact_view (take l.fact-index l.facts)) l.lists
