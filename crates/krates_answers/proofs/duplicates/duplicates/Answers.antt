use Rattle.std.proofs.Common.{◌≡◌, List, Bor, arith, append-nil, map, map-id, filter, sym, ap, ◌∙◌, subst}
use Rattle.std.proofs.lemmas.Map.Iter.{iter_end}
use Rattle.std.proofs.lemmas.Simd.{map-map}
use Rattle.std.specs.Global.{Vec}
use Rattle.krates_cm.specs.Document.{Text}
use Rattle.krates_cm.specs.declared.package.Package.{Package}
use Rattle.krates_queries.specs.KrateNodes.{match_view}
use Rattle.krates_queries.specs.declared.queries.krate_nodes.KrateMatch.{KrateMatch}
use Rattle.krates_answers.specs.Duplicates.{AreDuplicates, duplicate_view}
use Rattle.krates_answers.specs.Grouped.{group_view, groups_in, seen_group}
use Rattle.krates_answers.proofs.DuplicateLemmas.{are_duplicates, has_several}
use Rattle.krates_answers.proofs.SeveralLemmas.{few_in, named_entry, names_more}
use Rattle.krates_answers.proofs.duplicates.duplicates.Goals as goal

pub loop-name-preserved : goal.loop-name-preserved
loop-name-preserved c =
    let l = c.loop-name in
    let krates = c.in-Some.krates in
    let few = few_in krates.items (omega (arith, krates.ok.0)) in
    l.invariant ∙ sym (names_more l.yielded (c.in-Some.name, krates) _ few ∙ append-nil (filter has_several (map named_entry l.yielded)))

pub returns : goal.returns
returns c =
    let l = c.loop-name in
    let by_name = c.in_ok-by_name.by_name in
    let entries = by_name.entries in
    let crates = map match_view c.args.crates.now in
    let itself : map (λ (e : Bor Text × Vec (KrateMatch Package)). e) l.yielded ≡ entries =
    (iter_end (λ (e : Bor Text × Vec (KrateMatch Package)). e) entries l.yielded c.into_iter-name-iterator.result l.name-iterator c.next.new.self c.next.result
    c.into_iter-name-iterator.ensures.into_iter_gives.0 l.yielded_by c.in-None.is c.next.ensures.steps).0 in
    let all : l.yielded ≡ entries = sym (map-id l.yielded) ∙ itself in
    let names : filter has_several (map (seen_group match_view) (groups_in by_name)) ≡ map duplicate_view l.duplicates.items =
    ap (filter has_several) (map-map (seen_group match_view) group_view entries) ∙ ap (λ (es : List (Bor Text × Vec (KrateMatch Package))). filter has_several (map named_entry es)) (sym all) ∙ sym l.invariant in
    subst (AreDuplicates crates) names (are_duplicates crates (map (seen_group match_view) (groups_in by_name)) c.in_ok-by_name.ensures)
