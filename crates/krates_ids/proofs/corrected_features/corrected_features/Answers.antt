use Rattle.std.proofs.Common.{◌≡◌, [], ◌∷◌, Some, map, ap, ◌∙◌, subst, Contains}
use Rattle.std.specs.Option.{option_or}
use Rattle.krates_cm.specs.Document.{Text, text_view, texts_view, features_view}
use Rattle.krates_ids.specs.Correction.{named, dependency_reference}
use Rattle.krates_ids.proofs.CorrectedLemmas.{corrected_by_steps}
use Rattle.krates_ids.proofs.CorrectionLemmas.{empty_first}
use Rattle.krates_ids.proofs.corrected_features.corrected_features.Goals as goal

pub returns : goal.returns
returns c =
    let manifest = features_view c.args.manifest.now in
    let index = features_view c.args.index.now in
    let whole = features_view c.add_absent-2.new.features in
    let corrected = features_view c.add_references.new.features in
    let steps = c.in_ok-add_references.ensures in
    corrected_by_steps manifest index whole corrected (texts_view c.in_ok-names.names)
    (λ name. c.in_ok-add_absent-2.ensures name ∙ ap (λ x. option_or x (named index name)) (c.in_ok-add_absent.ensures name ∙ empty_first c.new-corrected.result name (named manifest name) c.new-corrected.ensures.empty))
    c.in_ok-names.ensures
    (subst (λ names. (name : Text) → Contains (map text_view names) name → named corrected name ≡ Some (dependency_reference name ∷ [])) c.deref.ensures.value steps.added)
    (subst (λ names. (name : Text) → (Contains (map text_view names) name → ⊥) → named corrected name ≡ named whole name) c.deref.ensures.value steps.kept)
