use Rattle.std.proofs.Common.{◌≡◌, map, drop}
use Rattle.std.specs.List.{list_any}
use Rattle.krates_text.specs.CfgExpression.{tree}
use Rattle.krates_text.specs.CfgValue.{value}
use Rattle.krates_text.specs.AskedTargets.{asked_of}
use Rattle.krates_text.proofs.passing.expression_passes.Given as goal

abbrev pub invariant-loop-target : goal.invariant-loop-target
invariant-loop-target l = list_any (λ a. value a.target a.features (tree l.expression)) (map asked_of (drop l.target-index l.targets)) ≡ list_any (λ a. value a.target a.features (tree l.expression)) (map asked_of l.targets)
