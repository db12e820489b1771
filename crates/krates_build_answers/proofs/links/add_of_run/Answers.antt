use Rattle.std.proofs.lemmas.Result.{on_ok_weaker}
use Rattle.krates_build_answers.specs.Links.{IsOfRun, over}
use Rattle.krates_build_answers.proofs.Added.{adds_equal, adds_nothing}
use Rattle.krates_build_answers.proofs.LinkSteps.{of_run}
use Rattle.krates_build_answers.proofs.links.add_of_run.Goals as goal

pub returns-then-not-is_for : goal.returns-then-not-is_for
returns-then-not-is_for c =
    adds_nothing (IsOfRun c.args.units.now.derived c.args.need.now c.args.link.now c.args.run.now) c.args.links.now.items
    (λ x h. absurd (let yes = c.is_for.ensures.1 h.run_for in let no = c.if-not-is_for.true in cc))

pub returns : goal.returns
returns c =
    let t = c.args.units.now.derived in
    let need = c.args.need.now in
    let link = c.args.link.now in
    let run = c.args.run.now in
    on_ok_weaker c.add.result
    (adds_equal (IsOfRun t need link run) _ _ c.over.result (over need run.placement.platform link.kind) c.over.ensures
    (of_run t need link run (c.is_for.ensures.0 c.if-not-is_for.false))) c.add.ensures
