use Rattle.std.proofs.Common.{refl}
use Rattle.krates_derive.specs.Giving.{FactIn, document_in, facts_in, setting_in}
use Rattle.krates_rules.specs.StepViews.{fact_view}
use Rattle.krates_rules.specs.declared.derivation.Fact.{Fact as ToldFact}
use Rattle.krates_rules.specs.Facts.{Fact}
use Rattle.krates_rules.proofs.Elements.{contains_read}
use Rattle.krates_rules.proofs.Seen.{seen_more, each_seen}
use Rattle.krates_checkers.proofs.closed.are_facts_in.Goals as goal

pub loop-fact-preserved : goal.loop-fact-preserved
loop-fact-preserved c = seen_more (λ (x : ToldFact). FactIn (document_in c.args.check.now) (setting_in c.args.check.now) (facts_in c.args.check.now) (fact_view x)) c.args.facts.now c.loop-fact.fact-index c.fact-item.result c.loop-fact-test.true c.fact-item.is c.loop-fact.invariant (c.in_ok-is_fact_in.ensures.0 c.if-not-branch.false)

pub returns-then-not-branch : goal.returns-then-not-branch
returns-then-not-branch c = (λ t. absurd cc, λ all. absurd (let told = all (fact_view c.fact-item.result) (contains_read fact_view c.args.facts.now c.loop-fact.fact-index c.fact-item.result c.loop-fact-test.true c.fact-item.is) in cc (c.in_ok-is_fact_in.ensures.1 told, c.if-not-branch.true)))

pub returns : goal.returns
returns c = (
  λ t y h. each_seen fact_view (λ (y : Fact). FactIn (document_in c.args.check.now) (setting_in c.args.check.now) (facts_in c.args.check.now) (y)) c.args.facts.now c.args.facts.now c.loop-fact.fact-index refl c.loop-fact-test.false c.loop-fact.invariant y (h),
  λ all. refl,
)
