use Rattle.std.proofs.Common.{◌≡◌}
use Rattle.std.specs.Option.{option_or}
use Rattle.krates_cm.specs.Document.{Text, features_view}
use Rattle.krates_ids.specs.Correction.{named}
use Rattle.krates_ids.proofs.CorrectionLemmas.{entries_view}
use Rattle.krates_ids.proofs.corrected_features.add_absent.Given as goal

-- what is there, and otherwise what is left, is what was there before, and otherwise what the others have
abbrev pub invariant-loop-name : goal.invariant-loop-name
invariant-loop-name l = (name : Text) → option_or (named (features_view l.features) name) (named (entries_view l.name-iterator) name)
    ≡ option_or (named (features_view l.fn.features) name) (named (features_view l.others) name)
