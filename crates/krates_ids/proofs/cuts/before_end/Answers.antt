use Rattle.std.proofs.lemmas.Str.Pattern.{strip_suffix_char}
use Rattle.krates_ids.proofs.cuts.before_end.Goals as goal

pub returns : goal.returns
returns c = strip_suffix_char _ _ _ c.strip_suffix.ensures.cases c.requires
