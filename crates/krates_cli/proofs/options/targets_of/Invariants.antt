use Rattle.std.proofs.Common.{◌≡◌, map, string_bytes, take}
use Rattle.krates_text.specs.AskedTargets.{asked_of}
use Rattle.krates_cli.specs.Options.{asked_at}
use Rattle.krates_cli.proofs.options.targets_of.Given as goal

abbrev pub invariant-loop-triple : goal.invariant-loop-triple
invariant-loop-triple l = map asked_of l.targets.items ≡ map asked_at (map string_bytes (take l.triple-index l.triples))
