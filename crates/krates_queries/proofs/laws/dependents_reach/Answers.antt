use Rattle.krates_queries.proofs.ReachedLemmas.{dependents_reach, direct_are_among_all}
use Rattle.krates_queries.proofs.laws.dependents_reach.Goals as goal

pub returns-clause-reach : goal.returns-clause-reach
returns-clause-reach g c nodes edges = dependents_reach nodes edges

pub returns-clause-direct : goal.returns-clause-direct
returns-clause-direct g c nodes edges = direct_are_among_all nodes edges
