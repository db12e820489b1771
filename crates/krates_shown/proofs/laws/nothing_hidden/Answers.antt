use Rattle.krates_shown.proofs.ShownLaws as shown
use Rattle.krates_shown.proofs.laws.nothing_hidden.Goals as goal

pub returns : goal.returns
returns c = λ text utf8. shown.nothing_hidden text
