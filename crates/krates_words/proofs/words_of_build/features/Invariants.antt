use Rattle.std.proofs.Common.{◌≡◌, map, string_bytes, take}
use Rattle.krates_cm.specs.Document.{texts_view}
use Rattle.krates_words.specs.BuildSettingWords.{feature_word}
use Rattle.krates_words.proofs.words_of_build.features.Given as goal

abbrev pub invariant-loop-name : goal.invariant-loop-name
invariant-loop-name l = texts_view l.words ≡ map feature_word (map string_bytes (take l.name-index l.names))
