use Rattle.std.proofs.Common.{◌≡◌, ◌∙◌, List, ℕ, map, rules, sym, subst}
use Rattle.std.proofs.lemmas.Iterator.{YieldsList-from_map, YieldsList-from_slice, items_from_collect}
use Rattle.std.proofs.lemmas.Iterator.Consumers.{YieldsList-at}
use Rattle.std.proofs.lemmas.Result.{IfOk-weaker}
use Rattle.krates_queries.specs.Direct.{Joined, dependent_view, IsDependent}
use Rattle.krates_queries.specs.declared.queries.direct.DirectDependent.{DirectDependent}
use Rattle.krates_answers.specs.DirectLinks.{AreExactly}
use Rattle.krates_answers.proofs.DependentNumbers.{exact_dependents}
use Rattle.krates_answers.proofs.direct_links.dependents_of.Goals as goal
use mathlib.Core.List.{map-map}

pub returns : goal.returns
returns g c =
    let krates = c.args.krates.now in
    let found = c.in_ok-found.found.items in
    let numbers : List ℕ = map (λ (d : DirectDependent g.row.N.Denot). d.node_id) found in
    let exact = exact_dependents krates.graph.nodes krates.graph.edges c.args.number (map dependent_view found) c.in_ok-found.ensures in
    let same : map (λ (j : Joined g.row.N.Denot). j.node) (map dependent_view found) ≡ numbers = map-map (λ (j : Joined g.row.N.Denot). j.node) dependent_view found in
    let all = items_from_collect c.collect.result c.collect.ensures.ran
    (YieldsList-from_map _ (λ (d : DirectDependent g.row.N.Denot). d.node_id) (YieldsList-at c.map.ensures.source (YieldsList-from_slice found (c.iter.ensures.rest ∙ c.deref.ensures.value))) c.map.ensures.closure (λ x r q k. search rules)) in
    IfOk-weaker c.collect.result _ _
    (λ items e. subst (λ (ns : List ℕ). AreExactly (IsDependent krates.graph.nodes krates.graph.edges c.args.number) ns) (same ∙ sym e) exact)
    all
