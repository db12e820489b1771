use Rattle.std.proofs.Common.{◌≡◌, ◌++◌, Bor, map, string_bytes}
use Rattle.std.specs.List.{flat_map}
use Rattle.krates_cm.specs.Document.{Text}
use Rattle.krates_words.specs.FeatureNames.{words_in}
use Rattle.krates_words.proofs.feature_names.push_names.Given as goal

-- the words of the parts so far are added
abbrev pub invariant-loop-part : goal.invariant-loop-part
invariant-loop-part l =
    (goal.iterator-loop-part).can_next l.part-iterator
    × (goal.iterator-loop-part).is_finite l.part-iterator
    × (map string_bytes l.names.items ≡ map string_bytes l.fn.names.items ++ flat_map words_in (map (λ (part : Bor Text). part.now) l.yielded))
