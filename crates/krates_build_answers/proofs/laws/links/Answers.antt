use Rattle.krates_build_answers.proofs.LinkLaws.{links_are_needs}
use Rattle.krates_build_answers.proofs.laws.links.Goals as goal

pub returns : goal.returns
returns c = links_are_needs c.meaning.ensures.exact c.meaning.ensures.sound c.meaning.ensures.complete
