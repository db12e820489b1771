use Rattle.std.proofs.Common.{length}
use Rattle.std.proofs.lemmas.Result.{IfOk-weaker}
use Rattle.krates_queries.specs.Kept.{ids_of}
use Rattle.krates_answers.proofs.DependentNumbers.{needs_links}
use Rattle.krates_answers.proofs.direct_links.DirectLinks.dependencies.Goals as goal

pub returns : goal.returns
returns g c =
    let krates = c.args.krates.now in
    let dependents = c.in_ok-dependents.field-0 in
    IfOk-weaker c.reversed-2.result _ _
    (λ turned links. needs_links krates (length (ids_of krates)) dependents turned c.in_ok-dependents.ensures links)
    c.reversed-2.ensures
