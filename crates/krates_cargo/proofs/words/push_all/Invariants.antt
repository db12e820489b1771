use Rattle.std.proofs.Common.{◌≡◌, ◌++◌, map, take}
use Rattle.krates_cm.specs.Document.{text_view, texts_view}
use Rattle.krates_cargo.proofs.words.push_all.Given as goal

abbrev pub invariant-loop-word : goal.invariant-loop-word
invariant-loop-word l = texts_view l.words ≡ texts_view l.initial.words ++ map text_view (take l.word-index l.others)
