use Rattle.krates.proofs.ConnectedLemmas.{agrees}
use Rattle.krates.proofs.laws.agreement.Goals as goal

pub returns : goal.returns
returns g c m s graph = agrees g.E.FromEdge.made_from_edge c.connected.ensures c.dependencies_agree.ensures m s graph
