use Rattle.std.proofs.Common.{◌≡◌, [], ◌∷◌, Some, map, take, Contains}
use Rattle.krates_cm.specs.Document.{Text, text_view, features_view}
use Rattle.krates_ids.specs.Correction.{named, dependency_reference}
use Rattle.krates_ids.proofs.corrected_features.add_references.Given as goal

abbrev pub invariant-loop-name : goal.invariant-loop-name
invariant-loop-name l =
    let done = map text_view (take l.name-index l.names) in
    record {
      added : (name : Text) → Contains done name → named (features_view l.features) name ≡ Some (dependency_reference name ∷ []);
      kept : (name : Text) → (Contains done name → ⊥) → named (features_view l.features) name ≡ named (features_view l.fn.features) name;
    }
