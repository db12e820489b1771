use Rattle.std.proofs.Common.{option_map, sym, ◌∙◌, ap}
use Rattle.krates_build_facts.specs.FactModels.{fact_view}
use Rattle.krates_grounding.proofs.GroundingSteps.{grounded_end, grounded_init, grounded_step}
use Rattle.krates_grounding.proofs.grounding.grounded.Goals as goal

pub loop-fact-init : goal.loop-fact-init
loop-fact-init c = grounded_init c.args.tables.now _ _ _ c.new-ground.ensures c.in_ok-write_initial.ensures c.in_ok-number_required.ensures

pub loop-fact-preserved : goal.loop-fact-preserved
loop-fact-preserved c = grounded_step c.args.tables.now _ _ c.loop-fact.next _ c.loop-fact.invariant c.in-Some.ensures.fact c.in_ok-write_rows.ensures

pub returns : goal.returns
returns c = grounded_end c.args.tables.now _ c.loop-fact.next c.loop-fact.invariant (ap (option_map fact_view) (sym c.in_default.is) ∙ c.fact.ensures.fact) c.agrees.ensures.named c.agrees.ensures.distinct
