use Rattle.std.proofs.Common.{◌≡◌, ◌+◌, ◌++◌, ◌∷◌, [], Some, cond, map, take, rules}
use Rattle.std.proofs.lemmas.List.{take_all}
use Rattle.std.specs.Str.{bytes_eq}
use Rattle.krates_cm.specs.Document.{Text, text_view, texts_view, features_view}
use Rattle.krates_ids.specs.Correction.{named, dependency_reference}
use Rattle.krates_ids.proofs.CorrectionLemmas.{taken_more, named-put-as}
use Rattle.krates_ids.proofs.ReferencesLemmas.{reference_added, reference_kept}
use Rattle.krates_ids.proofs.corrected_features.add_references.Goals as goal

pub loop-name-preserved : goal.loop-name-preserved
loop-name-preserved c =
    let l = c.loop-name in
    let done = map text_view (take l.name-index c.args.names.now) in
    let value = text_view c.name-item.result in
    let more : map text_view (take (l.name-index + 1) c.args.names.now) ≡ done ++ value ∷ [] = taken_more text_view c.args.names.now l.name-index c.name-item.result (search rules) c.name-item.is in
    let same : text_view c.in_ok-clone.field-0 ≡ value = c.in_ok-clone.ensures.cases in
    let values : texts_view c.in_ok-values.values ≡ dependency_reference value ∷ [] = search rules in
    let put : (q : Text) → named (features_view c.insert.new.self) q ≡ cond (bytes_eq q value) (Some (dependency_reference value ∷ [])) (named (features_view l.features) q) =
    named-put-as l.features c.insert.new.self c.in_ok-clone.field-0 c.in_ok-values.values value (dependency_reference value ∷ []) same values c.in_ok-insert.ensures.updates in
    record {
      added = λ q h. reference_added done value (named (features_view l.features)) (named (features_view c.insert.new.self)) put l.invariant.added q (rw more at h);
      kept = λ q h. reference_kept done value (named (features_view l.features)) (named (features_view c.insert.new.self)) (named (features_view c.args.features.now)) put l.invariant.kept q (rw more at h);
    }

pub returns-clause-added : goal.returns-clause-added
returns-clause-added c name h =
    let all : take c.loop-name.name-index c.args.names.now ≡ c.args.names.now = take_all c.loop-name.name-index c.args.names.now c.loop-name-test.false in
    c.loop-name.invariant.added name (rw all h)

pub returns-clause-kept : goal.returns-clause-kept
returns-clause-kept c name h =
    let all : take c.loop-name.name-index c.args.names.now ≡ c.args.names.now = take_all c.loop-name.name-index c.args.names.now c.loop-name-test.false in
    c.loop-name.invariant.kept name (rw all h)
