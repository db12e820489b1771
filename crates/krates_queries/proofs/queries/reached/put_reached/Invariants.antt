use Rattle.std.proofs.Common.{◌-◌, length}
use Rattle.krates_queries.proofs.ReachedLemmas.{IsFollowed}
use Rattle.krates_queries.proofs.queries.reached.put_reached.Given as goal

abbrev pub invariant-loop-taken : goal.invariant-loop-taken
invariant-loop-taken g l = IsFollowed (g.F.EdgeFilter.admits l.filter) (length l.graph.nodes) l.graph.edges l.direction l.fn.agenda.put l.agenda

abbrev pub decreases-loop-taken : goal.decreases-loop-taken
decreases-loop-taken g l = l.agenda.size - l.agenda.taken
