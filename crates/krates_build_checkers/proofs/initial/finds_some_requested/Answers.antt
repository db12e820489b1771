use Rattle.krates_build_tables.specs.References.{reference_view}
use Rattle.krates_build_tables.specs.declared.reference.FeatureReference.{FeatureReference}
use Rattle.krates_build_facts.specs.InitialRows.{requested}
use Rattle.krates_build_checkers.proofs.FoundRows.{found_get, none_get}
use Rattle.krates_build_checkers.proofs.initial.finds_some_requested.Goals as goal

pub returns-then-finds_requested : goal.returns-then-finds_requested
returns-then-finds_requested c = found_get (λ (v : FeatureReference). requested c.args.entry.now (reference_view v)) c.args.references.now c.loop-reference.reference-index _ c.args.sought.now c.finds_requested.result c.loop-reference-test.true c.if-finds_requested.true c.finds_requested.ensures

pub loop-reference-preserved : goal.loop-reference-preserved
loop-reference-preserved c = none_get (λ (v : FeatureReference). requested c.args.entry.now (reference_view v)) c.args.references.now c.loop-reference.reference-index _ c.args.sought.now c.finds_requested.result c.loop-reference-test.true c.if-finds_requested.false c.loop-reference.invariant c.finds_requested.ensures
