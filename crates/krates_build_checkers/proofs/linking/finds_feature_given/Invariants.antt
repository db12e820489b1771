use Rattle.std.proofs.Common.{false, [], ◌∷◌, map, take}
use Rattle.krates_units.specs.declared.sides.Meeting.TheVariants as meetings
use Rattle.krates_build_facts.specs.FactModels.{Linked, LinkedFeature}
use Rattle.krates_build_facts.specs.Rows.{rule}
use Rattle.krates_build_checkers.specs.Finding.{Finds}
use Rattle.krates_build_checkers.proofs.linking.finds_feature_given.Given as goal

-- it is none of the features so far
abbrev pub invariant-loop-feature : goal.invariant-loop-feature
invariant-loop-feature l = Finds false l.sought (map (λ g. rule (Linked l.fn.place ∷ []) (LinkedFeature l.child meetings.Dependency g.now)) (take l.feature-index l.features))
