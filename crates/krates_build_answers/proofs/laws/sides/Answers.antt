use Rattle.krates_build_answers.proofs.SideLaws.{sides_are_told}
use Rattle.krates_build_answers.proofs.laws.sides.Goals as goal

pub returns : goal.returns
returns c = sides_are_told c.meaning.ensures.exact c.meaning.ensures.sound c.meaning.ensures.complete
