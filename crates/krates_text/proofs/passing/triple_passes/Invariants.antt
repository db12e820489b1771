use Rattle.std.proofs.Common.{◌≡◌, map, drop}
use Rattle.std.specs.List.{list_any}
use Rattle.std.specs.Str.{bytes_eq}
use Rattle.krates_text.specs.TargetTable.{printed}
use Rattle.krates_text.specs.AskedTargets.{asked_of}
use Rattle.krates_text.proofs.passing.triple_passes.Given as goal

abbrev pub invariant-loop-target : goal.invariant-loop-target
invariant-loop-target l = list_any (λ a. bytes_eq (printed a.target) l.text) (map asked_of (drop l.target-index l.targets)) ≡ list_any (λ a. bytes_eq (printed a.target) l.text) (map asked_of l.targets)
