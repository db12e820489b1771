use Rattle.krates_build_answers.proofs.UnbuiltCrates.{unbuilt_is_not_built}
use Rattle.krates_build_answers.proofs.laws.unbuilt.Goals as goal

pub returns : goal.returns
returns c = unbuilt_is_not_built c.meaning.ensures.exact c.meaning.ensures.sound c.meaning.ensures.complete
