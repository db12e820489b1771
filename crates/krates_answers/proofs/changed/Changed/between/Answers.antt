use Rattle.std.proofs.Common.{◌≡◌, ◌∷◌, ◌++◌, [], Bor, true, map, map-id, sym, ap, ◌∙◌, subst}
use Rattle.std.proofs.lemmas.List.{map-append}
use Rattle.std.proofs.lemmas.Map.Iter.{iter_end}
use Rattle.krates_cm.proofs.CopyLemmas.{same_items}
use Rattle.krates_queries.specs.KrateNodes.{match_view}
use Rattle.std.specs.Option.{is_some}
use Rattle.semver.specs.declared.Version.{Version}
use Rattle.krates_answers.specs.Changed.{AreChanges, borrowed_versions, change_view}
use Rattle.krates_answers.specs.declared.changed.Changed.{Changed}
use Rattle.krates_answers.proofs.ChangedLemmas.{Named, are_changes, change_of, changes_in, found_versions, is_there, one_name_more}
use Rattle.krates_answers.proofs.changed.Changed.between.Goals as goal

pub loop-name-preserved-in-Continue-branch-4 : goal.loop-name-preserved-in-Continue-branch-4
loop-name-preserved-in-Continue-branch-4 c =
    let l = c.loop-name in
    let came = c.in_ok-came.came in
    let entry : Named = (c.in-Some.name, c.in-Some.from) in
    let item : Changed = record { name = c.in-Some.name; from = c.in-Some.from; to = c.in_ok-to.to } in
    let found = c.in-Some-get.ensures.value in
    let there : is_there came entry ≡ true = ap is_some (sym found) in
    let copied = same_items c.in-Some-get.to.now.items c.in_ok-to.to.items c.in_ok-to.ensures.cases.0 in
    let to = ap (map (λ (v : Bor Version). v.now)) copied ∙ ap found_versions found in
    let change : change_view item ≡ change_of came entry = λ i. record { name = c.in-Some.name.now; from = borrowed_versions c.in-Some.from; to = to i } in
    ap (map change_view) c.in_ok-push.ensures ∙ map-append change_view l.changed.items (item ∷ []) ∙ (λ i. l.invariant i ++ change i ∷ []) ∙ sym (one_name_more came l.yielded entry true there)

pub returns : goal.returns
returns c =
    let l = c.loop-name in
    let gone = c.in_ok-gone.gone in
    let came = c.in_ok-came.came in
    let entries = gone.entries in
    let removed = map match_view c.args.removed.now in
    let added = map match_view c.args.added.now in
    let itself : map (λ (e : Named). e) l.yielded ≡ entries =
    (iter_end (λ (e : Named). e) entries l.yielded c.into_iter-name-iterator.result l.name-iterator c.next.new.self c.next.result
    c.into_iter-name-iterator.ensures.into_iter_gives.0 l.yielded_by c.in-None.is c.next.ensures.steps).0 in
    let all : l.yielded ≡ entries = sym (map-id l.yielded) ∙ itself in
    subst (AreChanges removed added) (ap (changes_in came) (sym all) ∙ sym l.invariant) (are_changes removed added gone came c.in_ok-gone.ensures c.in_ok-came.ensures)
