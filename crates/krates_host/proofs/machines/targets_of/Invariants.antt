use Rattle.std.proofs.Common.{◌≡◌, map, string_bytes, take}
use Rattle.krates_units.specs.Machines.{machine_view}
use Rattle.krates_host.proofs.machines.targets_of.Given as goal

abbrev pub invariant-loop-triple : goal.invariant-loop-triple
invariant-loop-triple l = map (λ machine. machine.triple) (map machine_view l.machines.items) ≡ map string_bytes (take l.triple-index l.words.triples.items)
