use Rattle.std.proofs.Common.{List, map, subst}
use Rattle.krates_build_facts.specs.FactModels.{fact_view}
use Rattle.krates_build_facts.specs.declared.facts.BuildFact.{BuildFact}
use Rattle.krates_built.specs.FactLists.{AreListsOf}
use Rattle.krates_built.proofs.FoundLists.{lists_found}
use Rattle.krates_built.proofs.listed.lists_in.Goals as goal

pub returns : goal.returns
returns c =
    let facts = c.in_ok-facts.ensures in
    let are = subst (λ (fs : List BuildFact). AreListsOf (map fact_view fs) c.in_ok-lists.lists) c.deref.ensures.value c.in_ok-lists.ensures in
    lists_found c.args.derived.now c.in_ok-facts.facts.items facts.sound facts.complete facts.ordered c.in_ok-lists.lists are
