use Rattle.std.proofs.Common.{◌≡◌, ◌∷◌, rules, sym, ap, ◌∙◌}
use Rattle.std.specs.Option.{option_or}
use Rattle.std.specs.Str.{bytes_eq}
use Rattle.krates_cm.specs.Document.{text_view, texts_view, features_view}
use Rattle.krates_ids.specs.Correction.{named}
use Rattle.krates_ids.proofs.CorrectionLemmas.{entries_view, named-put, named_at, is_absent, is_present, present_passed, absent_put}
use Rattle.krates_ids.proofs.corrected_features.add_absent.Goals as goal

pub loop-name-preserved-then-not-contains_key : goal.loop-name-preserved-then-not-contains_key
loop-name-preserved-then-not-contains_key c name =
    let key = text_view c.in-Some.name.now in
    let step : c.loop-name.name-iterator ≡ (c.in-Some.name.now, c.in-Some.values.now) ∷ c.next.new.self = c.in-Some.ensures.steps in
    let before = rw step at c.loop-name.invariant name in
    let same : text_view c.in_ok-clone.field-0 ≡ key = c.in_ok-clone.ensures.cases in
    let copied : texts_view c.in_ok-copy.copy ≡ texts_view c.in-Some.values.now = search rules in
    let put = named-put c.loop-name.features c.insert.new.self c.in_ok-clone.field-0 c.in_ok-copy.copy c.in_ok-insert.ensures.updates name in
    let absent = is_absent c.loop-name.features key (search rules) in
    ap (λ x. option_or x (named (entries_view c.next.new.self) name)) (rw (same, copied) at put)
    ∙ absent_put (named (features_view c.loop-name.features) name) (bytes_eq name key) (texts_view c.in-Some.values.now) _ (λ e. named_at c.loop-name.features name key e ∙ absent)
    ∙ before

pub loop-name-preserved : goal.loop-name-preserved
loop-name-preserved c name =
    let key = text_view c.in-Some.name.now in
    let step : c.loop-name.name-iterator ≡ (c.in-Some.name.now, c.in-Some.values.now) ∷ c.next.new.self = c.in-Some.ensures.steps in
    let before = rw step at c.loop-name.invariant name in
    let present = is_present c.loop-name.features key (search rules) in
    present_passed (named (features_view c.loop-name.features) name) (bytes_eq name key) (texts_view c.in-Some.values.now) _ (λ e none. present (sym (named_at c.loop-name.features name key e) ∙ none))
    ∙ before
