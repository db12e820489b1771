use Rattle.std.proofs.Common.{false, [], ◌∷◌, map, take}
use Rattle.krates_build_facts.specs.FactModels.{ActivatedFeature, Used}
use Rattle.krates_build_facts.specs.Rows.{rule}
use Rattle.krates_build_checkers.specs.Finding.{Finds}
use Rattle.krates_build_checkers.proofs.sides.finds_feature_given.Given as goal

-- it is none of the features so far
abbrev pub invariant-loop-feature : goal.invariant-loop-feature
invariant-loop-feature l = Finds false l.sought (map (λ g. rule (Used l.fn.used.0 l.fn.used.1 ∷ []) (ActivatedFeature l.fn.to.0 l.fn.to.1 g.now)) (take l.feature-index l.features))
