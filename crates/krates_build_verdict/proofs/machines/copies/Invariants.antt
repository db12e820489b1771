use Rattle.std.proofs.Common.{◌≡◌, map, take}
use Rattle.krates_cm.specs.Document.{text_view, texts_view}
use Rattle.krates_build_verdict.proofs.machines.copies.Given as goal

-- the words so far are copied
abbrev pub invariant-loop-word : goal.invariant-loop-word
invariant-loop-word l = texts_view l.copies ≡ map text_view (take l.word-index l.words)
