use Rattle.std.proofs.Common.{◌≡◌, ◌∷◌, ◌++◌, ◌∙◌, [], List, Some, None, append-nil, map, ap, sym}
use Rattle.std.proofs.lemmas.List.{map-append}
use Rattle.std.proofs.lemmas.Result.{on_ok_weaker}
use Rattle.krates_cm.specs.declared.package.Package.{Package}
use Rattle.krates_queries.specs.KrateNodes.{Match, match_view}
use Rattle.krates_answers.specs.Difference.{Pair, dependency_view}
use Rattle.krates_answers.proofs.DifferenceLemmas.{its_pair}
use Rattle.krates_answers.proofs.difference.push_edge.Goals as goal

pub returns-in_default : goal.returns-in_default
returns-in_default c =
    let old = map dependency_view c.args.edges.now.items in
    let pairs = its_pair c.args.krates.now (match_view c.args.child.now) c.args.dependent.now None c.in_default.ensures in
    sym (append-nil old) ∙ ap (λ (more : List (Pair Package)). old ++ more) pairs

pub returns : goal.returns
returns c =
    let old = c.args.edges.now.items in
    let parent = match_view c.in-Some.parent in
    let pairs = its_pair c.args.krates.now (match_view c.args.child.now) c.args.dependent.now (Some parent) c.in-Some.ensures in
    on_ok_weaker c.push.result
    (λ e. ap (map dependency_view) e ∙ map-append dependency_view old (record { parent = c.in-Some.parent; child = c.again-child.result } ∷ [])
    ∙ ap (λ x. map dependency_view old ++ record { parent = parent; child = match_view x } ∷ []) c.again-child.ensures ∙ ap (λ (more : List (Pair Package)). map dependency_view old ++ more) pairs)
    c.push.ensures
