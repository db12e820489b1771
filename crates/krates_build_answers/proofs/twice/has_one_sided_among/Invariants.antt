use Rattle.std.proofs.Common.{All, take}
use Rattle.krates_built.specs.declared.places.FeaturePlace.{FeaturePlace}
use Rattle.krates_build_answers.specs.BuiltTwice.{IsOneSidedOf}
use Rattle.krates_build_answers.proofs.twice.has_one_sided_among.Given as goal

-- none so far is one
abbrev pub invariant-loop-feature : goal.invariant-loop-feature
invariant-loop-feature l = All (λ (x : FeaturePlace). IsOneSidedOf l.units.derived l.krate x → ⊥) (take l.feature-index l.features)
