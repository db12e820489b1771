use Rattle.std.proofs.Common.{Bor, arith}
use Rattle.krates_cm.specs.Document.{Text}
use Rattle.krates_build_facts.specs.FactModels.{Available, fact_view}
use Rattle.krates_build_checkers.proofs.SameFacts.{same_at}
use Rattle.krates_build_checkers.proofs.same.are_required.Goals as goal

pub returns-then-not-is_same : goal.returns-then-not-is_same
returns-then-not-is_same c =
    let n = c.loop-number.number in
    let said = λ (text : Bor Text). Available c.args.krate text.now in
    (λ t. absurd cc, λ same. absurd (cc (c.is_same.ensures.1 (same_at said fact_view c.args.texts.now c.args.facts.now n _ _ c.loop-number-test.true (omega arith) same), c.if-not-is_same.true)))
