use Rattle.krates_answers.proofs.OrderLemmas.{list_found, list_missing}
use Rattle.krates_answers.proofs.direct_links.DirectLinks.list.Goals as goal

pub returns-in-Some : goal.returns-in-Some
returns-in-Some c = list_found c.args.self.now c.args.number c.in-Some.list.now c.in-Some.ensures.list

pub returns-in-None : goal.returns-in-None
returns-in-None c = list_missing c.args.self.now c.args.number c.in-None.ensures.list
