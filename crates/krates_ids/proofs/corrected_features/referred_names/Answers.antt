use Rattle.std.proofs.Common.{◌≡◌, ◌∷◌, Some, map, inl, inr, option_map, ap, ◌∙◌, subst, rules}
use Rattle.std.specs.Map.Iter.{deref_pair}
use Rattle.std.specs.String.{string_cmp_total}
use Rattle.std.proofs.lemmas.Map.Iter.{btree_map_turn}
use Rattle.krates_cm.specs.Document.{text_view, texts_view, features_view}
use Rattle.krates_ids.specs.Correction.{named}
use Rattle.krates_ids.proofs.CorrectionLemmas.{entries_view, named-entries}
use Rattle.krates_ids.proofs.ReferencesLemmas.{AddsReferred, has_value, referred_sound, referred_complete}
use Rattle.krates_ids.proofs.corrected_features.referred_names.Goals as goal

pub loop-name-init : goal.loop-name-init
loop-name-init c =
    let all = c.into_iter-name-iterator.ensures.into_iter_gives ∙ c.iter-name-items.ensures.rest in
    record {
      sound = λ name h. absurd (search rules);
      complete = λ name r. inr (rw all (has_value (features_view c.args.features.now) r.1.feature r.1.values name r.1.is r.1.among));
    }

pub loop-name-preserved : goal.loop-name-preserved
loop-name-preserved c =
    let l = c.loop-name in
    let key = text_view c.in-Some._name.now in
    let values = texts_view c.in-Some.values.now in
    let features = named (features_view c.args.features.now) in
    let turn = btree_map_turn deref_pair l.yielded c.into_iter-name-iterator.result l._name-iterator c.next.new.self c.next.result (c.in-Some._name, c.in-Some.values) l.yielded_by c.in-Some.is c.next.ensures.steps string_cmp_total c.args.features.now
    (c.into_iter-name-iterator.ensures.into_iter_gives ∙ c.iter-name-items.ensures.rest) c.iter-name-items.ensures.ordered in
    let found : features key ≡ Some values = named-entries text_view texts_view c.args.features.now.entries key ∙ ap (option_map texts_view) turn.1 in
    let adds : AddsReferred features (texts_view l.names) values (texts_view c.add_referred.new.names) =
    subst (λ vs. AddsReferred features (texts_view l.names) (map text_view vs) (texts_view c.add_referred.new.names)) c.deref.ensures.value c.in_ok-add_referred.ensures in
    let step : l._name-iterator ≡ (c.in-Some._name.now, c.in-Some.values.now) ∷ c.next.new.self = c.in-Some.ensures.steps in
    record {
      sound = referred_sound features (texts_view l.names) (texts_view c.add_referred.new.names) key values found adds l.invariant.sound;
      complete = referred_complete features (texts_view l.names) (texts_view c.add_referred.new.names) key values (entries_view c.next.new.self) adds (rw step at l.invariant.complete);
    }

pub returns : goal.returns
returns c name =
    let left = rw c.in-None.ensures.steps.0 at c.loop-name.invariant.complete in
    (c.loop-name.invariant.sound name, λ r. elim (left name r) [ inl there ↦ there | inr none ↦ absurd none ])
