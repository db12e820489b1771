use Rattle.std.proofs.Common.{map, take}
use Rattle.krates_cm.specs.Document.{texts_view}
use Rattle.krates_build_facts.specs.FactModels.{fact_view}
use Rattle.krates_build_verdict.specs.NamedClaims.{NamesFacts}
use Rattle.krates_build_verdict.proofs.claim.facts_of.Given as goal

-- the words so far name the facts so far
abbrev pub invariant-loop-number : goal.invariant-loop-number
invariant-loop-number l = NamesFacts l.names (map texts_view (take l.number l.named)) (map fact_view l.facts.items)
