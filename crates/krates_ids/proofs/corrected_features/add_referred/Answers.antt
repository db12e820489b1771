use Rattle.std.proofs.Common.{◌≡◌, ◌+◌, ◌++◌, ◌∷◌, [], None, map, take, rules, ap, ◌∙◌, Contains}
use Rattle.std.proofs.lemmas.List.{map-append, take_all}
use Rattle.krates_cm.specs.Document.{Text, text_view, texts_view, features_view}
use Rattle.krates_text.specs.FeatureReference.{IsReference, simple}
use Rattle.krates_ids.specs.Correction.{named}
use Rattle.krates_ids.proofs.CorrectionLemmas.{taken_more}
use Rattle.krates_ids.proofs.ReferencesLemmas.{value_added, value_passed}
use Rattle.krates_ids.proofs.corrected_features.add_referred.Goals.{then-is_absent_reference+in_ok-clone+in_ok-push, else-is_absent_reference}
use Rattle.krates_ids.proofs.corrected_features.add_referred.Goals as goal

pub loop-value-preserved : goal.loop-value-preserved
loop-value-preserved c name =
    let l = c.loop-value in
    let names = texts_view l.names in
    let done = map text_view (take l.value-index c.args.values.now) in
    let value = text_view c.value-item.result in
    let Before = Contains (texts_view c.args.names.now) in
    let P = λ (t : Text). IsReference t (simple t) in
    let Q = λ (t : Text). named (features_view c.args.features.now) t ≡ None in
    let more : map text_view (take (l.value-index + 1) c.args.values.now) ≡ done ++ value ∷ [] = taken_more text_view c.args.values.now l.value-index c.value-item.result (search rules) c.value-item.is in
    rw more (elim c.if-is_absent_reference.branch [
      | then-is_absent_reference+in_ok-clone+in_ok-push w ↦
          let grown : c.if-is_absent_reference.names.items ≡ l.names.items ++ w.in_ok-clone.field-0 ∷ [] = search rules in
          let same : text_view w.in_ok-clone.field-0 ≡ value = w.in_ok-clone.ensures.cases in
          let pushed : texts_view c.if-is_absent_reference.names ≡ names ++ value ∷ [] = ap (map text_view) grown ∙ map-append text_view l.names.items (w.in_ok-clone.field-0 ∷ []) ∙ ap (λ t. names ++ t ∷ []) same in
          let both : P value × Q value = rw c.deref.ensures at c.is_absent_reference.ensures.0 w.if-is_absent_reference.true in
          rw pushed (value_added names done value Before P Q both.0 both.1 name (l.invariant name))
      | else-is_absent_reference w ↦
          let kept : texts_view c.if-is_absent_reference.names ≡ names = search rules in
          rw kept (value_passed names done value Before P Q
          (λ p q. let yes = (rw c.deref.ensures at c.is_absent_reference.ensures.1) (p, q) in search rules) name (l.invariant name))
    ])

pub returns : goal.returns
returns c name =
    let all : take c.loop-value.value-index c.args.values.now ≡ c.args.values.now = take_all c.loop-value.value-index c.args.values.now c.loop-value-test.false in
    rw all at c.loop-value.invariant name
