use Rattle.std.proofs.Common.{◌≡◌, map, string_bytes, take}
use Rattle.krates_samples.specs.StandIn.{in_lines}
use Rattle.krates_samples.proofs.stand_in.lines.Given as goal

abbrev pub invariant-loop-word : goal.invariant-loop-word
invariant-loop-word l = string_bytes l.lines ≡ in_lines (map string_bytes (take l.word-index l.words))
