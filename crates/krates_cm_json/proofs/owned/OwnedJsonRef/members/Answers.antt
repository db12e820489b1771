use Rattle.std.proofs.Common.{◌≡◌, [], ◌∷◌, ◌++◌, Some, refl, rules, string_bytes, ap, sym, subst, ◌∙◌, append_assoc, append-nil}
use Rattle.std.specs.List.Sorted.{IsStrictlySortedBy}
use Rattle.std.specs.Map.{keys_of}
use Rattle.std.specs.String.{string_cmp}
use Rattle.serde_json.specs.View.{view, members_view}
use Rattle.serde_json.specs.Data.{put}
use Rattle.serde_json.proofs.Views.{Entry, put_last}
use Rattle.krates_cm_json.specs.Entries.{entries_data}
use Rattle.krates_cm_json.proofs.EntryLemmas.{entries_data-insert_entry}
use Rattle.krates_cm_json.proofs.owned.OwnedJsonRef.members.Goals as goal

pub loop-name-init : goal.loop-name-init
loop-name-init c = record { can = search rules; finite = search rules; split = ([], refl, ap (entries_data (λ j. view j.value.now)) c.new-found.ensures.empty) }

pub loop-name-preserved : goal.loop-name-preserved
loop-name-preserved c =
    let l = c.loop-name in
    let done = l.invariant.split.0 in
    let e : Entry = (c.in-Some-2.name.now, c.in-Some-2.value.now) in
    let left = c.next.new.self in
    let step : l.name-iterator ≡ e ∷ left = c.in-Some-2.ensures.steps in
    let all : c.into_iter-name-iterator.result ≡ done ++ e ∷ left = l.invariant.split.1 ∙ ap (λ es. done ++ es) step in
    let given : c.in-Some.members.now.entries ≡ c.into_iter-name-iterator.result = search rules in
    let ordered = subst (λ es. IsStrictlySortedBy string_cmp (keys_of es)) (given ∙ all) c.iter-name-items.ensures.ordered in
    let grown = ap (entries_data (λ j. view j.value.now)) c.in_ok-insert.ensures.entries ∙ entries_data-insert_entry (λ j. view j.value.now) l.found.entries _ _ in
    record {
      can = search rules;
      finite = search rules;
      split = (done ++ e ∷ [], all ∙ sym (append_assoc done (e ∷ []) left), grown ∙ ap (λ k. put k (view e.1) (entries_data (λ j. view j.value.now) l.found.entries)) c.as_str.ensures.value ∙ ap (put (string_bytes e.0) (view e.1)) l.invariant.split.2 ∙ put_last done e left ordered);
    }

pub returns : goal.returns
returns c =
    let l = c.loop-name in
    let done = l.invariant.split.0 in
    let all : c.into_iter-name-iterator.result ≡ done = l.invariant.split.1 ∙ ap (λ es. done ++ es) c.in-None.ensures.steps.0 ∙ append-nil done in
    rw (l.invariant.split.2) (ap (λ es. Some (members_view es)) (sym all) ∙ search rules)
