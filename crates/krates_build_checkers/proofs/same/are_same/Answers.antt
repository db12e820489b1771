use Rattle.std.proofs.Common.{arith}
use Rattle.krates_build_facts.specs.FactModels.{fact_view}
use Rattle.krates_build_checkers.proofs.SameFacts.{same_at}
use Rattle.krates_build_checkers.proofs.same.are_same.Goals as goal

pub returns-then-not-is_same : goal.returns-then-not-is_same
returns-then-not-is_same c =
    let n = c.loop-number.number in
    (λ t. absurd cc, λ same. absurd (cc (c.is_same.ensures.1 (same_at fact_view fact_view c.args.facts.now c.args.others.now n _ _ c.loop-number-test.true (omega arith) same), c.if-not-is_same.true)))
