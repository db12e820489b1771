use Rattle.std.proofs.Common.{◌≡◌, ◌⊎◌, None, Contains}
use Rattle.krates_cm.specs.Document.{Text, texts_view, features_view}
use Rattle.krates_ids.specs.Correction.{named, Refers}
use Rattle.krates_ids.proofs.CorrectionLemmas.{entries_view}
use Rattle.krates_ids.proofs.ReferencesLemmas.{HasValue}
use Rattle.krates_ids.proofs.corrected_features.referred_names.Given as goal

-- each name that was added is referred to; each that is referred to was added or is a value of an entry that is left
abbrev pub invariant-loop-name : goal.invariant-loop-name
invariant-loop-name l =
    let features = named (features_view l.features) in
    record {
      sound : (name : Text) → Contains (texts_view l.names) name → (features name ≡ None) × Refers features name;
      complete : (name : Text) → (features name ≡ None) × Refers features name → Contains (texts_view l.names) name ⊎ HasValue (entries_view l._name-iterator) name;
    }
