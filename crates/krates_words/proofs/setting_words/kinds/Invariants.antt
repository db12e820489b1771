use Rattle.std.proofs.Common.{◌≡◌, map, take}
use Rattle.krates_cm.specs.Document.{texts_view}
use Rattle.krates_words.specs.SettingWords.{kind_word}
use Rattle.krates_words.proofs.setting_words.kinds.Given as goal

abbrev pub invariant-loop-kind : goal.invariant-loop-kind
invariant-loop-kind l = texts_view l.words ≡ map kind_word (take l.kind-index l.ignored)
