use Rattle.krates_text.specs.FeatureReference.{IsReference, simple}
use Rattle.krates_ids.proofs.CorrectionLemmas.{absent_answer}
use Rattle.krates_ids.proofs.ReferencesLemmas.{simple_itself, weak_not_simple}
use Rattle.krates_ids.proofs.corrected_features.is_absent_reference.Goals as goal

pub returns-in-Simple : goal.returns-in-Simple
returns-in-Simple c =
    let value = c.args.value.now in
    absent_answer c.args.features.now value (IsReference value (simple value)) c.contains_key.result c.contains_key.ensures
    (simple_itself c.from.result.text.now value c.in-Simple.field-0.now c.from.ensures c.in-Simple.ensures)

pub returns-in-Weak : goal.returns-in-Weak
returns-in-Weak c =
    let value = c.args.value.now in
    (λ h. absurd cc, λ w. absurd (weak_not_simple c.from.result.text.now value c.in-Weak.krate.now c.in-Weak.feature.now (c.one_reference.ensures value) c.from.ensures c.in-Weak.ensures w.0))
