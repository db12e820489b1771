use Rattle.std.proofs.Common.{◌≡◌, map, take}
use Rattle.krates_cm.specs.Document.{texts_view}
use Rattle.krates_words.specs.SettingWords.{exclusion_word}
use Rattle.krates_words.proofs.setting_words.exclusions.Given as goal

abbrev pub invariant-loop-spec : goal.invariant-loop-spec
invariant-loop-spec l = texts_view l.words ≡ map exclusion_word (take l.spec-index l.specs)
