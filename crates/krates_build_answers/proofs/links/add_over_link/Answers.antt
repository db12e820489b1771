use Rattle.std.proofs.lemmas.Result.{on_ok_weaker}
use Rattle.krates_build_answers.specs.Links.{IsOfScript, IsOver, over}
use Rattle.krates_build_answers.proofs.Added.{adds_equal, adds_same}
use Rattle.krates_build_answers.proofs.LinkSteps.{over_script, over_unit}
use Rattle.krates_build_answers.proofs.links.add_over_link.Goals as goal

pub returns-then-is_build : goal.returns-then-is_build
returns-then-is_build c =
    let t = c.args.units.now.derived in
    let need = c.args.need.now in
    let link = c.args.link.now in
    on_ok_weaker c.add_of_script.result (adds_same (IsOfScript t need link) (IsOver t need link) _ _ (over_script t need link (c.is_build.ensures.0 c.if-is_build.true)))
    c.add_of_script.ensures

pub returns : goal.returns
returns c =
    let t = c.args.units.now.derived in
    let need = c.args.need.now in
    let link = c.args.link.now in
    on_ok_weaker c.add.result
    (adds_equal (IsOver t need link) _ _ c.over.result (over need need.from link.kind) c.over.ensures
    (over_unit t need link (λ is. absurd (let yes = c.is_build.ensures.1 is in let no = c.if-is_build.false in cc)))) c.add.ensures
