use Rattle.std.proofs.Common.{◌≡◌, ◌≤◌, ◌++◌, [], ℕ, List, length}
use Rattle.std.specs.Io.KnownBytes.{Appends}
use Rattle.krates_cli.specs.Counted.{inner_of, failures_of}
use Rattle.krates_cli.proofs.counted.Counted.write_all.Given as goal

abbrev pub invariant-loop-rest : goal.invariant-loop-rest
invariant-loop-rest g l =
    ((done : List ℕ) × (l.fn.bytes ≡ done ++ l.rest)
    × Appends (g.W.Write.contents (inner_of l.fn.self)) (g.W.Write.contents (inner_of l.self)) done)
    × (failures_of l.fn.self ≤ failures_of l.self)
    × (l.fn.bytes ≡ [] → l.self ≡ l.fn.self)

abbrev pub decreases-loop-rest : goal.decreases-loop-rest
decreases-loop-rest g l = length l.rest
