use Rattle.krates_questions.proofs.FeatureNumbers.{AreNumberedBelow}
use Rattle.krates_questions.proofs.feature_table.feature_table.Given as goal

-- the map has the numbers of the features so far
abbrev pub invariant-loop-number : goal.invariant-loop-number
invariant-loop-number l = AreNumberedBelow l.feature-items l.number l.numbers
