use Rattle.std.proofs.Common.{◌<◌, length, arith}
use Rattle.std.proofs.lemmas.List.{get_or_default}
use Rattle.krates_questions.proofs.FeatureNumbers.{numbers_more, numbers_whole}
use Rattle.krates_questions.proofs.feature_table.feature_table.Goals as goal

pub loop-number-init : goal.loop-number-init
loop-number-init c = λ q. rw c.new-numbers.ensures.empty (λ n lt s. absurd (omega (arith, lt)))

pub loop-number-preserved : goal.loop-number-preserved
loop-number-preserved c =
    let l = c.loop-number in
    let xs = c.deref-feature-items.result.now in
    let lt : l.number < length xs = c.loop-number-test.true in
    numbers_more xs l.number _ l.numbers c.insert.new.self lt (get_or_default xs l.number _ _ lt) c.in_ok-insert.ensures.updates.0 l.invariant

pub returns-clause-numbered : goal.returns-clause-numbered
returns-clause-numbered c = numbers_whole _ _ c.loop-number.number c.loop-number.numbers c.deref-feature-items.ensures.value (omega arith) c.loop-number.invariant
