-- How facts by number compare: by their kind, and then field by field.
use Rattle.std.specs.declared.cmp.Ordering.{Ordering}
use Rattle.krates_build_facts.specs.contracts.facts.BuildFactOrd.TheImpl as fact_order
use Rattle.krates_build_facts.specs.declared.facts.BuildFact.{BuildFact}

-- the derived order
abbrev pub fact_cmp : BuildFact → BuildFact → Ordering
fact_cmp = (fact_order.ghosts).cmp
