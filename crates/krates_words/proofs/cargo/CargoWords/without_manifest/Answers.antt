use Rattle.std.proofs.Common.{rules}
use Rattle.krates_cm.proofs.CopyLemmas.{same_texts}
use Rattle.krates_words.proofs.cargo.CargoWords.without_manifest.Goals as goal

pub returns-clause-told : goal.returns-clause-told
returns-clause-told c = let copied = same_texts c.args.self.now.features c.in_ok-clone.field-0 c.in_ok-clone.ensures.cases in search rules
