use Rattle.std.proofs.Common.{map, subst, sym}
use Rattle.krates_text.specs.Passing.{TellsPassingOf}
use Rattle.krates_text.specs.AskedTargets.{asked_of}
use Rattle.krates_text.specs.CfgExpression.{tree}
use Rattle.krates_text.proofs.CfgPassing.{told}
use Rattle.krates_text.proofs.passing.passes.Goals as goal

pub returns-in-Ok : goal.returns-in-Ok
returns-in-Ok c =
    let targets = map asked_of c.args.targets.now in
    subst (λ text. TellsPassingOf text targets c.expression_passes.result) (sym c.in-Some.is)
    (told c.in-Some.text.now (tree c.in-Ok.expression) targets c.expression_passes.result c.in-Ok.ensures.found c.expression_passes.ensures)
