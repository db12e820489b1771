use Rattle.std.proofs.Common.{rules}
use Rattle.krates_words.specs.FeatureNames.{names_in}
use Rattle.krates_words.proofs.SplitLemmas.{next_text}
use Rattle.krates_words.proofs.feature_names.feature_names.Goals as goal

pub loop-text-preserved : goal.loop-text-preserved
loop-text-preserved c = next_text names_in _ _ c.args.texts.now c.loop-text.text-index c.text-item.result _ c.loop-text-test.true c.text-item.is c.loop-text.invariant c.as_str.ensures.value (search rules)
