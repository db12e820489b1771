use Rattle.std.proofs.Common.{◌↔◌, Bool, IsTrue, Contains, sym, subst}
use Rattle.krates_answers.proofs.SearchedNumbers.{found_in, leads_to}
use Rattle.krates_answers.proofs.direct_links.DirectLinks.leads.Goals as goal

pub returns-in-Some : goal.returns-in-Some
returns-in-Some c =
    let list = c.in-Some.list.now in
    leads_to c.args.self.now c.args.from c.args.to list c.is_ok.result (sym c.in-Some.ensures.list)
    (subst (λ (answer : Bool). IsTrue answer ↔ Contains list c.args.to) (sym c.is_ok.ensures.value) (found_in list c.args.to c.binary_search.result c.in-Some.ensures.ascending c.binary_search.ensures.position))
