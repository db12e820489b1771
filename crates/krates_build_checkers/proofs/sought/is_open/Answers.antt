use Rattle.krates_build_checkers.proofs.GivenSets.{given_told}
use Rattle.krates_build_checkers.proofs.sought.is_open.Goals as goal

pub returns-then-contains-clause-kept : goal.returns-then-contains-clause-kept
returns-then-contains-clause-kept c lacks all = (given_told c.args.given.now _ c.contains.result c.contains.ensures).0 c.if-contains.true

pub returns-clause-open : goal.returns-clause-open
returns-clause-open c there = record { premises = c.are_given.ensures.0 there; fact = λ among. absurd (cc ((given_told c.args.given.now _ c.contains.result c.contains.ensures).1 among, c.if-contains.false)) }
