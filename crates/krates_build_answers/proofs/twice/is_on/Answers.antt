use Rattle.std.proofs.Common.{◌↔◌, Any, IsTrue, List, subst, inl}
use Rattle.krates_build_facts.specs.declared.facts.UnitPlace.{UnitPlace}
use Rattle.krates_built.specs.declared.places.ScriptPlace.{ScriptPlace}
use Rattle.krates_build_answers.specs.BuiltTwice.{IsScriptOn, IsUnitOn}
use Rattle.krates_build_answers.proofs.TwiceBuilt.{built_on, second_decides}
use Rattle.krates_build_answers.proofs.twice.is_on.Goals as goal

pub returns-then-has_unit : goal.returns-then-has_unit
returns-then-has_unit c =
    let l = c.args.units.now in
    let same = built_on l.derived l.lists.units.items l.lists.scripts.items c.agrees.ensures.units c.agrees.ensures.scripts c.args.krate c.args.side in
    let told = subst (λ (us : List UnitPlace). IsTrue c.has_unit.result ↔ Any (IsUnitOn c.args.krate c.args.side) us) c.units.ensures c.has_unit.ensures in
    (λ t. same.0 (inl (told.0 c.if-has_unit.true)), λ h. c.if-has_unit.true)

pub returns-else-has_unit : goal.returns-else-has_unit
returns-else-has_unit c =
    let l = c.args.units.now in
    let same = built_on l.derived l.lists.units.items l.lists.scripts.items c.agrees.ensures.units c.agrees.ensures.scripts c.args.krate c.args.side in
    let one = subst (λ (us : List UnitPlace). IsTrue c.has_unit.result ↔ Any (IsUnitOn c.args.krate c.args.side) us) c.units.ensures c.has_unit.ensures in
    let other = subst (λ (xs : List ScriptPlace). IsTrue c.has_script.result ↔ Any (IsScriptOn c.args.krate c.args.side) xs) c.scripts.ensures c.has_script.ensures in
    second_decides c.has_unit.result c.has_script.result one c.if-has_unit.false other same
