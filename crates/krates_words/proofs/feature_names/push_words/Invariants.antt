use Rattle.std.proofs.Common.{◌≡◌, ◌++◌, Bor, map, string_bytes}
use Rattle.std.specs.List.{flat_map}
use Rattle.krates_cm.specs.Document.{Text}
use Rattle.krates_words.specs.FeatureNames.{word_in}
use Rattle.krates_words.proofs.feature_names.push_words.Given as goal

-- the words so far are added
abbrev pub invariant-loop-word : goal.invariant-loop-word
invariant-loop-word l =
    (goal.iterator-loop-word).can_next l.word-iterator
    × (goal.iterator-loop-word).is_finite l.word-iterator
    × (map string_bytes l.names.items ≡ map string_bytes l.fn.names.items ++ flat_map word_in (map (λ (word : Bor Text). word.now) l.yielded))
