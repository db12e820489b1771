use Rattle.std.proofs.lemmas.Str.Pattern.{strip_prefix_char}
use Rattle.krates_ids.proofs.cuts.after_front.Goals as goal

pub returns : goal.returns
returns c = strip_prefix_char _ _ _ c.strip_prefix.ensures.cases c.requires
