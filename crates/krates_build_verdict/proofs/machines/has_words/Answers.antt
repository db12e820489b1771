use Rattle.krates_build_verdict.proofs.SameWords.{words_tell}
use Rattle.krates_build_verdict.proofs.machines.has_words.Goals as goal

pub returns : goal.returns
returns c = words_tell c.args.claimed.now c.args.words.now c.eq.result c.eq.ensures
