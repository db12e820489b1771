use Rattle.std.proofs.Common.{◌≡◌, ◌∙◌, ◌∷◌, ◌++◌, [], List, ℕ, length, ap, subst}
use Rattle.std.proofs.lemmas.List.{map-append}
use Rattle.std.specs.Global.{Vec}
use Rattle.krates_queries.specs.Direct.{IsDependent}
use Rattle.krates_queries.specs.Kept.{ids_of}
use Rattle.krates_queries.specs.KrateNodes.{Match, match_view}
use Rattle.krates_answers.specs.DirectLinks.{items_of}
use Rattle.krates_answers.proofs.DependentNumbers.{AreFound, found_count, found_more, needed_links, needed_stored}
use Rattle.krates_answers.proofs.direct_links.DirectLinks.dependents.Goals as goal

pub loop-found-preserved : goal.loop-found-preserved
loop-found-preserved g c =
    let krates = c.args.krates.now in
    let l = c.loop-found in
    let Leads = IsDependent krates.graph.nodes krates.graph.edges in
    let count = length (ids_of krates) in
    let lists = items_of l.lists.items in
    let list = c.in_ok-dependents_of.field-0 in
    let m = match_view c.in-Some.found in
    let left : l.found-iterator ≡ m ∷ c.next.new.self = c.in-Some.ensures.steps in
    let pushed : items_of c.push.new.self.items ≡ lists ++ list.items ∷ [] = ap items_of c.in_ok-push.ensures.items ∙ map-append (λ (v : Vec ℕ). v.items) l.lists.items (list ∷ []) in
    let before = subst (λ (ms : List (Match g.row.N.Denot)). AreFound Leads count lists ms) left l.invariant.1 in
    (tt, rw pushed (found_more Leads count lists list.items m c.next.new.self before c.in_ok-dependents_of.ensures))

pub invariant_of-result : goal.invariant_of-result
invariant_of-result g c =
    let krates = c.args.krates.now in
    let found = c.krate_nodes-found-items.ensures in
    let lists = items_of c.loop-found.lists.items in
    let counted = found_count (IsDependent krates.graph.nodes krates.graph.edges) (length (ids_of krates)) lists c.loop-found.found-iterator c.in-None.ensures.steps.0 c.loop-found.invariant.1 in
    needed_stored krates lists (rw found.all at found.below) found.ordered.numbered counted c.loop-found.invariant.1.each

pub returns : goal.returns
returns g c =
    let krates = c.args.krates.now in
    let lists = items_of c.loop-found.lists.items in
    let counted = found_count (IsDependent krates.graph.nodes krates.graph.edges) (length (ids_of krates)) lists c.loop-found.found-iterator c.in-None.ensures.steps.0 c.loop-found.invariant.1 in
    needed_links krates lists counted c.loop-found.invariant.1.each
