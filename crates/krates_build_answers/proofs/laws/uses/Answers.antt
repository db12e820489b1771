use Rattle.krates_build_answers.proofs.SideLaws.{uses_are_of}
use Rattle.krates_build_answers.proofs.laws.uses.Goals as goal

pub returns : goal.returns
returns c = uses_are_of c.meaning.ensures.exact c.meaning.ensures.sound c.meaning.ensures.complete
