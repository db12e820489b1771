use Rattle.std.proofs.Common.{◌∙◌, [], ap, arith, rules}
use Rattle.std.specs.List.{flat_map}
use Rattle.std.specs.Str.Iter.{split_has_more, split_pattern, split_text}
use Rattle.std.proofs.lemmas.Iterator.Consumers.{YieldsList-end}
use Rattle.std.proofs.lemmas.Iterator.Splits.{YieldsList-from_str_split}
use Rattle.krates_host.specs.Flags.{flag_in}
use Rattle.krates_words.proofs.SplitLemmas.{next_part}
use Rattle.krates_host.proofs.flags.plain.Goals as goal

pub loop-part-preserved : goal.loop-part-preserved
loop-part-preserved c = (
  search rules,
  search rules,
  next_part flag_in [] _ _ c.loop-part.yielded c.in-Some.part c.loop-part.invariant.2 (search rules),
)

pub returns : goal.returns
returns c =
    let made = c.into_iter-part-iterator.ensures.into_iter_gives in
    let parts = c.split-part-items.ensures in
    let road = YieldsList-from_str_split 32 c.args.text.now (omega arith) (ap split_text made ∙ parts.text) (ap split_has_more made ∙ parts.has_more) (ap split_pattern made ∙ parts.pattern) in
    let end = YieldsList-end road c.loop-part.yielded _ c.loop-part.yielded_by _ _ c.in-None.is c.next.ensures.steps in
    c.loop-part.invariant.2 ∙ ap (flat_map flag_in) end.0
