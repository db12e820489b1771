use Rattle.std.proofs.Common.{◌≡◌, ◌<◌, ◌++◌, ◌∷◌, ◌∙◌, List, [], length, map, ap, sym, subst}
use Rattle.std.proofs.lemmas.List.{map-append}
use Rattle.std.proofs.lemmas.List.Elements.{All-contains}
use Rattle.std.specs.List.{flat_map}
use Rattle.krates_cm.specs.declared.package.Package.{Package}
use Rattle.krates_rules.proofs.Members.{Member, contains_of}
use Rattle.krates_queries.specs.Kept.{ids_of}
use Rattle.krates_queries.specs.KrateNodes.{Match, crates_of, match_view}
use Rattle.krates_queries.specs.declared.queries.direct.DirectDependent.{DirectDependent}
use Rattle.krates_answers.specs.Difference.{IsDependency, dependency_view, pairs_to, pairs_with}
use Rattle.krates_answers.specs.Those.{AreThose}
use Rattle.krates_answers.proofs.DifferenceLemmas.{one_more_child}
use Rattle.krates_answers.proofs.WalkedLists.{next_among, those_none, walked, walked_on}
use Rattle.krates_answers.proofs.difference.DependencyEdge.all_in.Goals as goal

pub loop-child-init : goal.loop-child-init
loop-child-init c = (tt, c.into_iter-child-iterator.ensures.into_iter_gives ∙ c.krate_nodes-child-items.ensures.all, those_none _ (ap (map dependency_view) c.new-edges.ensures.items))

pub loop-child-preserved : goal.loop-child-preserved
loop-child-preserved c =
    let l = c.loop-child in
    let krates = c.args.krates.now in
    let child = match_view c.in-Some.child in
    let done = map match_view l.yielded in
    let ds = c.in_ok-dependents.dependents.items in
    let old = map dependency_view l.edges.items in
    let new = map dependency_view c.push_edges.new.edges.items in
    let nodes = c.krate_nodes-child-items.result in
    let among = next_among done child l.child-iterator c.next.new.self (crates_of krates) c.in-Some.ensures.steps l.invariant.1 in
    let listed = contains_of nodes child (subst (λ (ms : List (Match Package)). Member ms child) (sym c.krate_nodes-child-items.ensures.all) among) in
    let within : child.number < length (ids_of krates) = All-contains (λ (m : Match Package). m.number < length (ids_of krates)) nodes child c.krate_nodes-child-items.ensures.below listed in
    let adds = subst (λ (xs : List (DirectDependent Package)). new ≡ old ++ pairs_to krates child xs) c.deref.ensures.value c.in_ok-push_edges.ensures in
    let more = one_more_child krates child ds done old new within c.in_ok-dependents.ensures adds l.invariant.2 in (
      tt,
      walked_on match_view l.yielded c.in-Some.child l.child-iterator c.next.new.self (crates_of krates) c.in-Some.ensures.steps l.invariant.1,
      subst (λ (ms : List (Match Package)). AreThose (IsDependency krates) (flat_map (λ m. pairs_with m (crates_of krates)) ms) new) (sym (map-append match_view l.yielded (c.in-Some.child ∷ []))) more,
    )

pub returns : goal.returns
returns c =
    let l = c.loop-child in
    let krates = c.args.krates.now in
    let found = map dependency_view l.edges.items in
    let all = walked match_view l.yielded l.child-iterator (crates_of krates) c.in-None.ensures.steps.0 l.invariant.1 in
    subst (λ (ms : List (Match Package)). AreThose (IsDependency krates) (flat_map (λ m. pairs_with m (crates_of krates)) ms) found) all l.invariant.2
