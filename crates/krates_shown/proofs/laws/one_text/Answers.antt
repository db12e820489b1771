use Rattle.krates_shown.proofs.ShownLaws as shown
use Rattle.krates_shown.proofs.laws.one_text.Goals as goal

pub returns : goal.returns
returns c = shown.one_text
