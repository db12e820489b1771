use Rattle.std.proofs.Common.{List, subst}
use Rattle.std.proofs.lemmas.Result.{on_ok_weaker}
use Rattle.krates_built.specs.declared.places.RunPlace.{RunPlace}
use Rattle.krates_build_answers.specs.Adding.{Adds, IsOfSome}
use Rattle.krates_build_answers.specs.Links.{IsOfRun, IsOfScript}
use Rattle.krates_build_answers.proofs.Added.{adds_same}
use Rattle.krates_build_answers.proofs.LinkSteps.{of_runs}
use Rattle.krates_build_answers.proofs.links.add_of_script.Goals as goal

pub returns : goal.returns
returns c =
    let l = c.args.units.now in
    let need = c.args.need.now in
    let link = c.args.link.now in
    let old = c.args.links.now.items in
    let new = c.add_of_runs.new.links.items in
    on_ok_weaker c.add_of_runs.result
    (λ h. adds_same (IsOfSome (IsOfRun l.derived need link) l.lists.runs.items) (IsOfScript l.derived need link) old new
    (of_runs l.derived need link l.lists.runs.items c.agrees.ensures.runs)
    (subst (λ (rs : List RunPlace). Adds (IsOfSome (IsOfRun l.derived need link) rs) old new) c.runs.ensures h)) c.add_of_runs.ensures
