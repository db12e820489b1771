use Rattle.std.proofs.Common.{◌≡◌, ◌∷◌, ◌++◌, ◌∙◌, ◌+◌, ◌<◌, [], arith, rules, length, map, take, get_or, refl, sym, ap}
use Rattle.std.proofs.lemmas.List.{map-append, take_more}
use Rattle.krates_queries.specs.KrateNodes.{match_view}
use Rattle.krates_answers.proofs.ChangedLemmas.{one_version_more}
use Rattle.krates_answers.proofs.OneMoreGrouped.{none_grouped}
use Rattle.krates_answers.proofs.changed.versions_of.Goals as goal

pub loop-found-init : goal.loop-found-init
loop-found-init c = record { borrowed = []; groups = none_grouped c.new-versions.result c.new-versions.ensures.empty; seen = refl }

pub loop-found-preserved : goal.loop-found-preserved
loop-found-preserved c =
    let l = c.loop-found in
    let krates = c.args.krates.now in
    let item = c.found-item.result in
    let lt : l.found-index < length krates = omega (arith, c.loop-found-test.true) in
    let more : map match_view (take (l.found-index + 1) krates) ≡ map match_view (take l.found-index krates) ++ match_view item ∷ [] =
    ap (map match_view) (take_more krates l.found-index item lt) ∙ map-append match_view (take l.found-index krates) (get_or krates l.found-index item ∷ [])
    ∙ ap (λ x. map match_view (take l.found-index krates) ++ match_view x ∷ []) (sym c.found-item.is) in
    one_version_more (map match_view (take l.found-index krates)) (map match_view (take (l.found-index + 1) krates)) (match_view item) l.versions c.put_under.new.groups _ _ l.invariant c.in_ok-put_under.ensures more (search rules) (search rules)
