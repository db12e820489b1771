use Rattle.std.proofs.Common.{◌∙◌, ap, arith}
use Rattle.std.specs.Str.Iter.{split_has_more, split_pattern, split_text}
use Rattle.std.proofs.lemmas.Iterator.Consumers.{YieldsList-end}
use Rattle.std.proofs.lemmas.Iterator.Splits.{YieldsList-from_str_split}
use Rattle.krates_host.proofs.flags.between_separators.Goals as goal

pub returns : goal.returns
returns c =
    let made = c.into_iter-flag-iterator.ensures.into_iter_gives in
    let parts = c.split-flag-items.ensures in
    let road = YieldsList-from_str_split 31 c.args.text.now (omega arith) (ap split_text made ∙ parts.text) (ap split_has_more made ∙ parts.has_more) (ap split_pattern made ∙ parts.pattern) in
    let end = YieldsList-end road c.loop-flag.yielded _ c.loop-flag.yielded_by _ _ c.in-None.is c.next.ensures.steps in
    c.loop-flag.invariant.2 ∙ end.0
