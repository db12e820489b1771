use Rattle.std.proofs.Common.{◌≡◌, ◌++◌, map, flat_map, take}
use Rattle.krates_cm.specs.Document.{text_view}
use Rattle.krates_cargo.proofs.words.joined.Given as goal

abbrev pub invariant-loop-name : goal.invariant-loop-name
invariant-loop-name l = text_view l.text ≡ text_view l.initial.text ++ flat_map (λ name. l.separator ++ name) (map text_view (take l.name-index l.rest))
