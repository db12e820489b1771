use Rattle.krates_build_answers.proofs.TwiceLaws.{twice_compiled}
use Rattle.krates_build_answers.proofs.laws.twice.Goals as goal

pub returns : goal.returns
returns c = twice_compiled c.meaning.ensures.exact c.meaning.ensures.sound c.meaning.ensures.complete
