use Rattle.std.proofs.Common.{[], ◌∷◌, map, take}
use Rattle.krates_build_facts.specs.FactModels.{ActivatedFeature, Used}
use Rattle.krates_grounding.specs.Grounding.{HasWritten}
use Rattle.krates_build_facts.specs.Rows.{rule}
use Rattle.krates_grounding.proofs.side_rows.write_given.Given as goal

-- those of the features so far are written
abbrev pub invariant-loop-feature : goal.invariant-loop-feature
invariant-loop-feature l =
    HasWritten l.initial.ground l.ground (map (λ g. rule (Used l.fn.place l.fn.side ∷ []) (ActivatedFeature l.link.child l.to g.now)) (take l.feature-index l.link.given.items))
