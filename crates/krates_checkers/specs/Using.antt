-- A caller's step with other uses.
use Rattle.std.specs.Prelude.{ℕ, List}
use Rattle.krates_rules.specs.StepViews.{fact_view}
use Rattle.krates_rules.specs.declared.derivation.Step.{Step}
use Rattle.krates_rules.specs.Steps.{StepModel}

abbrev pub using : Step → List ℕ → StepModel
using x uses = record { rule = x.rule; fact = fact_view x.fact; uses = uses }
