use Rattle.std.proofs.Common.{◌≡◌, ◌∷◌, ◌++◌, ◌∙◌, ◌+◌, ◌<◌, [], List, append-nil, append_assoc, length, map, take, get_or, arith, sym, ap}
use Rattle.std.proofs.lemmas.List.{take_all, take_more}
use Rattle.krates_cm.specs.declared.package.Package.{Package}
use Rattle.krates_queries.specs.KrateNodes.{match_view}
use Rattle.krates_queries.specs.declared.queries.direct.DirectDependent.{DirectDependent}
use Rattle.krates_answers.specs.Difference.{Pair, dependency_view, pairs_to}
use Rattle.krates_answers.proofs.DifferenceLemmas.{one_more_pair}
use Rattle.krates_answers.proofs.difference.push_edges.Goals as goal

pub loop-dependent-init : goal.loop-dependent-init
loop-dependent-init c = sym (append-nil (map dependency_view c.args.edges.now.items))

pub loop-dependent-preserved : goal.loop-dependent-preserved
loop-dependent-preserved c =
    let l = c.loop-dependent in
    let krates = c.args.krates.now in
    let child = match_view c.args.child.now in
    let dependents = c.args.dependents.now in
    let item = c.dependent-item.result in
    let old = map dependency_view c.args.edges.now.items in
    let lt : l.dependent-index < length dependents = omega (arith, c.loop-dependent-test.true) in
    let more : pairs_to krates child (take (l.dependent-index + 1) dependents) ≡ pairs_to krates child (take l.dependent-index dependents) ++ pairs_to krates child (item ∷ []) =
    ap (pairs_to krates child) (take_more dependents l.dependent-index item lt) ∙ one_more_pair krates child (take l.dependent-index dependents) (get_or dependents l.dependent-index item)
    ∙ ap (λ (d : DirectDependent Package). pairs_to krates child (take l.dependent-index dependents) ++ pairs_to krates child (d ∷ [])) (sym c.dependent-item.is) in
    c.in_ok-push_edge.ensures ∙ ap (λ (front : List (Pair Package)). front ++ pairs_to krates child (item ∷ [])) l.invariant
    ∙ append_assoc old (pairs_to krates child (take l.dependent-index dependents)) (pairs_to krates child (item ∷ [])) ∙ ap (λ (rest : List (Pair Package)). old ++ rest) (sym more)

pub returns : goal.returns
returns c =
    let l = c.loop-dependent in
    l.invariant ∙ ap (λ (ds : List (DirectDependent Package)). map dependency_view c.args.edges.now.items ++ pairs_to c.args.krates.now (match_view c.args.child.now) ds) (take_all l.dependent-index c.args.dependents.now c.loop-dependent-test.false)
