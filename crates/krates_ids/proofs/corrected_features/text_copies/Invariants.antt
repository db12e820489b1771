use Rattle.std.proofs.Common.{◌≡◌, map, take}
use Rattle.krates_cm.specs.Document.{text_view, texts_view}
use Rattle.krates_ids.proofs.corrected_features.text_copies.Given as goal

abbrev pub invariant-loop-text : goal.invariant-loop-text
invariant-loop-text l = texts_view l.copied ≡ map text_view (take l.text-index l.texts)
