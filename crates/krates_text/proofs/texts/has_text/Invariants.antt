use Rattle.std.proofs.Common.{◌≡◌, map, string_bytes, drop}
use Rattle.krates_text.specs.Texts.{has_text}
use Rattle.krates_text.proofs.texts.has_text.Given as goal

abbrev pub invariant-loop-other : goal.invariant-loop-other
invariant-loop-other l = has_text (map string_bytes (drop l.other-index l.texts)) l.text ≡ has_text (map string_bytes l.texts) l.text
