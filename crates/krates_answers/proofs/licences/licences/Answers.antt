use Rattle.std.proofs.Common.{◌≡◌, ◌++◌, ◌∷◌, [], List, Bor, map, map-id, sym, ap, ◌∙◌, subst}
use Rattle.std.proofs.lemmas.List.{map-append}
use Rattle.std.proofs.lemmas.Map.Iter.{iter_end}
use Rattle.std.proofs.lemmas.Simd.{map-map}
use Rattle.std.specs.Global.{Vec}
use Rattle.krates_cm.specs.Document.{Text}
use Rattle.krates_cm.specs.declared.package.Package.{Package}
use Rattle.krates_queries.specs.KrateNodes.{Match, match_view}
use Rattle.krates_queries.specs.declared.queries.krate_nodes.KrateMatch.{KrateMatch}
use Rattle.krates_answers.specs.Grouped.{AreGroups, Group, group_view, groups_in, seen_group}
use Rattle.krates_answers.specs.Labelled.{with_label}
use Rattle.krates_answers.specs.Licences.{licence_view, stated_licence}
use Rattle.krates_answers.proofs.SeveralLemmas.{named_entry}
use Rattle.krates_answers.proofs.licences.licences.Goals as goal

pub loop-text-preserved : goal.loop-text-preserved
loop-text-preserved c =
    let l = c.loop-text in
    let entry : Bor Text × Vec (KrateMatch Package) = (c.in-Some.text, c.in-Some.krates) in
    let more = ap (λ (gs : List (Group (Match Package))). gs ++ named_entry entry ∷ []) l.invariant in
    rw c.in_ok-push.ensures (rw (map-append licence_view l.licences.items _) (rw (map-append named_entry l.yielded (entry ∷ [])) more))

pub returns : goal.returns
returns c =
    let l = c.loop-text in
    let by_licence = c.in_ok-by_licence.by_licence in
    let entries = by_licence.entries in
    let itself : map (λ (e : Bor Text × Vec (KrateMatch Package)). e) l.yielded ≡ entries =
    (iter_end (λ (e : Bor Text × Vec (KrateMatch Package)). e) entries l.yielded c.into_iter-text-iterator.result l.text-iterator c.next.new.self c.next.result
    c.into_iter-text-iterator.ensures.into_iter_gives.0 l.yielded_by c.in-None.is c.next.ensures.steps).0 in
    let all : l.yielded ≡ entries = sym (map-id l.yielded) ∙ itself in
    let licences : map (seen_group match_view) (groups_in by_licence) ≡ map licence_view l.licences.items =
    map-map (seen_group match_view) group_view entries ∙ ap (map named_entry) (sym all) ∙ sym l.invariant in
    subst (AreGroups (map (with_label stated_licence) (map match_view c.args.crates.now))) licences c.in_ok-by_licence.ensures
