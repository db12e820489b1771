use Rattle.krates_built.proofs.MeantLists.{lists_are_built}
use Rattle.krates_built.proofs.laws.lists_are_built.Goals as goal

pub returns : goal.returns
returns c = lists_are_built c.meaning.ensures.sound c.meaning.ensures.complete
