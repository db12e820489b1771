use Rattle.krates_answers.proofs.OrderLemmas.{is_stuck}
use Rattle.krates_answers.proofs.direct_links.DirectLinks.ended.Goals as goal

pub cycle_from-requires-clause-stuck : goal.cycle_from-requires-clause-stuck
cycle_from-requires-clause-stuck c = is_stuck c.args.self.now c.args.order.items c.args.is_done.now c.requires

pub returns-in-None : goal.returns-in-None
returns-in-None c = record { ordered = c.requires.ordered; all = λ n lt. (c.requires.marked n lt).0 (c.in-None.ensures n lt) }
