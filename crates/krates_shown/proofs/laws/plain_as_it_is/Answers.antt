use Rattle.krates_shown.proofs.ShownLaws as shown
use Rattle.krates_shown.proofs.laws.plain_as_it_is.Goals as goal

pub returns : goal.returns
returns c = shown.plain_as_it_is
