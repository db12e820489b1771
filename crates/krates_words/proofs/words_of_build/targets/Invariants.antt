use Rattle.std.proofs.Common.{◌≡◌, map, take}
use Rattle.krates_cm.specs.Document.{texts_view}
use Rattle.krates_units.specs.Machines.{machine_view}
use Rattle.krates_words.specs.BuildSettingWords.{target_word}
use Rattle.krates_words.proofs.words_of_build.targets.Given as goal

abbrev pub invariant-loop-machine : goal.invariant-loop-machine
invariant-loop-machine l = texts_view l.words ≡ map target_word (map machine_view (take l.machine-index l.machines))
