use Rattle.std.proofs.Common.{◌≡◌, ◌++◌, ◌∙◌, ap, arith, map, rules, string_bytes}
use Rattle.std.specs.List.{flat_map}
use Rattle.std.specs.Str.Iter.{split_has_more, split_pattern, split_text}
use Rattle.std.proofs.lemmas.Iterator.Consumers.{YieldsList-end}
use Rattle.std.proofs.lemmas.Iterator.Splits.{YieldsList-from_str_split}
use Rattle.krates_words.specs.FeatureNames.{word_in}
use Rattle.krates_words.proofs.SplitLemmas.{next_part}
use Rattle.krates_words.proofs.feature_names.push_words.Goals as goal

pub loop-word-preserved : goal.loop-word-preserved
loop-word-preserved c = (
  search rules,
  search rules,
  next_part word_in (map string_bytes c.args.names.now.items) _ _ c.loop-word.yielded c.in-Some.word c.loop-word.invariant.2 (search rules),
)

pub returns : goal.returns
returns c =
    let made = c.into_iter-word-iterator.ensures.into_iter_gives in
    let parts = c.split-word-items.ensures in
    let road = YieldsList-from_str_split 32 c.args.text.now (omega arith) (ap split_text made ∙ parts.text) (ap split_has_more made ∙ parts.has_more) (ap split_pattern made ∙ parts.pattern) in
    let end = YieldsList-end road c.loop-word.yielded _ c.loop-word.yielded_by _ _ c.in-None.is c.next.ensures.steps in
    c.loop-word.invariant.2 ∙ ap (λ all. map string_bytes c.args.names.now.items ++ flat_map word_in all) end.0
