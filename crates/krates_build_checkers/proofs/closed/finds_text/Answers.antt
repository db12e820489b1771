use Rattle.std.proofs.Common.{Bor}
use Rattle.krates_cm.specs.Document.{Text}
use Rattle.krates_build_facts.specs.FactModels.{Available}
use Rattle.krates_build_facts.specs.Rows.{rows_of}
use Rattle.krates_build_checkers.proofs.FoundRows.{found_get, none_get}
use Rattle.krates_build_checkers.proofs.closed.finds_text.Goals as goal

pub returns-then-finds_begun : goal.returns-then-finds_begun
returns-then-finds_begun c = found_get (λ (text : Bor Text). rows_of c.args.tables.now (Available c.args.krate text.now)) c.args.texts.now c.loop-text.text-index _ c.args.sought.now c.finds_begun.result c.loop-text-test.true c.if-finds_begun.true c.finds_begun.ensures

pub loop-text-preserved : goal.loop-text-preserved
loop-text-preserved c = none_get (λ (text : Bor Text). rows_of c.args.tables.now (Available c.args.krate text.now)) c.args.texts.now c.loop-text.text-index _ c.args.sought.now c.finds_begun.result c.loop-text-test.true c.if-finds_begun.false c.loop-text.invariant c.finds_begun.ensures
