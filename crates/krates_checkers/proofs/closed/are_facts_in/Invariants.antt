use Rattle.krates_derive.specs.Giving.{FactIn, document_in, facts_in, setting_in}
use Rattle.krates_rules.specs.StepViews.{fact_view}
use Rattle.krates_rules.proofs.Seen.{SeenBelow}
use Rattle.krates_checkers.proofs.closed.are_facts_in.Given as goal

-- it holds of the facts so far
abbrev pub invariant-loop-fact : goal.invariant-loop-fact
invariant-loop-fact l = SeenBelow (λ x. FactIn (document_in l.check) (setting_in l.check) (facts_in l.check) (fact_view x)) l.facts l.fact-index
