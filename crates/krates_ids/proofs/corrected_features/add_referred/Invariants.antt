use Rattle.std.proofs.Common.{◌≡◌, ◌↔◌, ◌⊎◌, None, map, take, Contains}
use Rattle.krates_cm.specs.Document.{Text, text_view, texts_view, features_view}
use Rattle.krates_text.specs.FeatureReference.{IsReference, simple}
use Rattle.krates_ids.specs.Correction.{named}
use Rattle.krates_ids.proofs.corrected_features.add_referred.Given as goal

abbrev pub invariant-loop-value : goal.invariant-loop-value
invariant-loop-value l = (name : Text) → Contains (texts_view l.names) name ↔ (Contains (texts_view l.fn.names) name
    ⊎ (Contains (map text_view (take l.value-index l.values)) name × IsReference name (simple name) × (named (features_view l.features) name ≡ None)))
