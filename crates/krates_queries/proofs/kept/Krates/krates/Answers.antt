use Rattle.krates_queries.proofs.NodeLemmas.{as_many_values}
use Rattle.krates_queries.proofs.kept.Krates.krates.Goals as goal

pub returns-clause-matched : goal.returns-clause-matched
returns-clause-matched g c = as_many_values c.args.self.now.graph.nodes
