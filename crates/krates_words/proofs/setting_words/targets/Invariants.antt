use Rattle.std.proofs.Common.{◌≡◌, map, take}
use Rattle.krates_cm.specs.Document.{texts_view}
use Rattle.krates_words.specs.SettingWords.{target_word}
use Rattle.krates_words.proofs.setting_words.targets.Given as goal

abbrev pub invariant-loop-target : goal.invariant-loop-target
invariant-loop-target l = texts_view l.words ≡ map target_word (take l.target-index l.targets)
