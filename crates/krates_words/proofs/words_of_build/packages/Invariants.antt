use Rattle.std.proofs.Common.{◌≡◌, map, take}
use Rattle.krates_cm.specs.Document.{texts_view}
use Rattle.krates_ids.specs.PackageSpecification.{spec_view}
use Rattle.krates_words.specs.BuildSettingWords.{named_word}
use Rattle.krates_words.proofs.words_of_build.packages.Given as goal

abbrev pub invariant-loop-spec : goal.invariant-loop-spec
invariant-loop-spec l = texts_view l.words ≡ map named_word (map spec_view (take l.spec-index l.specs))
