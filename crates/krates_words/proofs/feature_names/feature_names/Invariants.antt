use Rattle.std.proofs.Common.{◌≡◌, map, string_bytes, take}
use Rattle.krates_words.specs.FeatureNames.{names_of}
use Rattle.krates_words.proofs.feature_names.feature_names.Given as goal

abbrev pub invariant-loop-text : goal.invariant-loop-text
invariant-loop-text l = map string_bytes l.names.items ≡ names_of (map string_bytes (take l.text-index l.texts))
