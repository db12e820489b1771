use Rattle.std.proofs.Common.{[], List, subst}
use Rattle.krates_built.specs.declared.places.NeedPlace.{NeedPlace}
use Rattle.krates_build_answers.specs.Adding.{Adds, IsOfSome}
use Rattle.krates_build_answers.specs.Links.{IsLinkOver}
use Rattle.krates_build_answers.proofs.LinkSteps.{all_links}
use Rattle.krates_build_answers.proofs.PlaceOrders.{links_apart}
use Rattle.krates_build_answers.proofs.links.build_links.Goals as goal

pub returns-clause-exact : goal.returns-clause-exact
returns-clause-exact c =
    let l = c.args.units.now in
    let all = c.in_ok-all.all.items in
    all_links l.derived l.lists.needs.items all c.in_ok-links.links.items c.agrees.ensures.needs
    (subst (λ (ns : List NeedPlace). Adds (IsOfSome (IsLinkOver l.derived) ns) [] all) c.needs.ensures c.in_ok-all.ensures)
    (c.in_ok-links.ensures.kept links_apart)
