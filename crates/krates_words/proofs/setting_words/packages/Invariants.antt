use Rattle.std.proofs.Common.{◌≡◌, map, take}
use Rattle.krates_cm.specs.Document.{texts_view}
use Rattle.krates_words.specs.SettingWords.{package_word}
use Rattle.krates_words.proofs.setting_words.packages.Given as goal

abbrev pub invariant-loop-path : goal.invariant-loop-path
invariant-loop-path l = texts_view l.words ≡ map package_word (take l.path-index l.paths)
