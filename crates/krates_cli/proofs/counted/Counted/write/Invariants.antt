use Rattle.std.proofs.Common.{◌≤◌, ◌-◌, ◌^◌}
use Rattle.std.specs.Io.KnownBytes.{Keeps}
use Rattle.krates_cli.specs.Counted.{inner_of, failures_of}
use Rattle.krates_cli.proofs.counted.Counted.write.Given as goal

abbrev pub invariant-loop-count : goal.invariant-loop-count
invariant-loop-count g l =
    Keeps (g.W.Write.contents (inner_of l.fn.self)) (g.W.Write.contents (inner_of l.self))
    × (failures_of l.fn.self ≤ failures_of l.self)
    × (l.turns ≤ failures_of l.self)

abbrev pub decreases-loop-count : goal.decreases-loop-count
decreases-loop-count g l = 2 ^ 64 - l.turns
