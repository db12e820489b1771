use Rattle.std.proofs.Common.{◌≡◌, map, take}
use Rattle.krates_cm.specs.Document.{text_view}
use Rattle.krates_build_tables.proofs.texts.borrowed.Given as goal

-- those so far are lent
abbrev pub invariant-loop-text : goal.invariant-loop-text
invariant-loop-text l = map (λ t. t.now) l.lent.items ≡ map text_view (take l.text-index l.texts)
