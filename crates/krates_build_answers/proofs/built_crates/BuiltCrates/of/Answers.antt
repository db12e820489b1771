use Rattle.std.proofs.Common.{◌↔◌, ◌++◌, List, Contains, map, ap, ◌∙◌, subst}
use Rattle.krates_build_facts.specs.declared.facts.UnitPlace.{UnitPlace}
use Rattle.krates_built.specs.declared.places.ScriptPlace.{ScriptPlace}
use Rattle.krates_build_answers.specs.BuiltCrates.{of_script, of_unit}
use Rattle.krates_build_answers.specs.declared.built_crates.BuiltCrate.{BuiltCrate}
use Rattle.krates_build_answers.proofs.BuiltPlaces.{all_built}
use Rattle.krates_build_answers.proofs.PlaceOrders.{built_apart}
use Rattle.krates_build_answers.proofs.built_crates.BuiltCrates.of.Goals as goal

pub returns : goal.returns
returns c =
    let l = c.args.units.now in
    let places = c.in_ok-places.places.items in
    let all = c.in_ok-all.ensures ∙ ap (λ (us : List UnitPlace). map of_unit us ++ map of_script c.scripts.result.now) c.units.ensures
    ∙ ap (λ (ss : List ScriptPlace). map of_unit l.lists.units.items ++ map of_script ss) c.scripts.ensures in
    all_built l.derived l.lists.units.items l.lists.scripts.items c.agrees.ensures.units c.agrees.ensures.scripts places
    (λ x. subst (λ (ys : List BuiltCrate). Contains places x ↔ Contains ys x) all (c.in_ok-places.ensures.kept built_apart x))
