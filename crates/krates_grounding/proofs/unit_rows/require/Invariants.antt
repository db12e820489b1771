use Rattle.std.proofs.Common.{◌≡◌, ◌++◌, map, take}
use Rattle.krates_build_facts.specs.FactModels.{Available, fact_view}
use Rattle.krates_grounding.proofs.unit_rows.require.Given as goal

-- the texts so far are added
abbrev pub invariant-loop-text : goal.invariant-loop-text
invariant-loop-text l =
    map fact_view l.premises.items ≡ map fact_view l.fn.premises.items ++ map (λ text. Available l.target.place.krate text.now) (take l.text-index l.target.required.items)
