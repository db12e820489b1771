use Rattle.std.proofs.Common.{take}
use Rattle.krates_queries.specs.Reached.{Grows, IsFarEndOf}
use Rattle.krates_queries.proofs.queries.reached.put_ends.Given as goal

abbrev pub invariant-loop-id : goal.invariant-loop-id
invariant-loop-id g l = Grows (IsFarEndOf (g.F.EdgeFilter.admits l.filter) l.edges l.direction (take l.id-index l.ids)) l.fn.agenda l.agenda
