use Rattle.krates_verdict.proofs.CountedCrates.{crates_counted}
use Rattle.krates_verdict.proofs.crates_of_facts.count_crates.Goals as goal

pub returns : goal.returns
returns c = crates_counted c.comparison.ensures.order c.in_ok-krates.krates _ c.len.result c.len.ensures.ordered c.in_ok-krates.ensures c.len.ensures.len
