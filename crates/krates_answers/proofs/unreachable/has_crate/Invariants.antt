use Rattle.std.proofs.Common.{◌≡◌, All, take}
use Rattle.krates_rules.specs.Facts.{Crate}
use Rattle.krates_rules.specs.Resolved.{id_of}
use Rattle.krates_rules.specs.StepViews.{fact_view}
use Rattle.krates_rules.specs.declared.derivation.Fact.{Fact}
use Rattle.krates_answers.proofs.unreachable.has_crate.Given as goal

-- none of the facts so far says so
abbrev pub invariant-loop-fact : goal.invariant-loop-fact
invariant-loop-fact l = All (λ (fact : Fact). fact_view fact ≡ Crate (id_of l.kid) → ⊥) (take l.fact-index l.facts)
