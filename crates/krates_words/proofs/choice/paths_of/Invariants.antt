use Rattle.std.proofs.Common.{◌≡◌, map, string_bytes, take}
use Rattle.krates_words.proofs.choice.paths_of.Given as goal

abbrev pub invariant-loop-text : goal.invariant-loop-text
invariant-loop-text l = map (λ path. path.now) l.paths.items ≡ map string_bytes (take l.text-index l.texts)
