use Rattle.krates_questions.specs.Context.{rules_of}
use Rattle.krates_checkers.proofs.Checked.{two_told}
use Rattle.krates_checkers.proofs.checking.follows_two.Goals as goal

pub returns : goal.returns
returns c =
    let q = rules_of c.args.context.now in
    two_told q c.args.steps.now c.args.number c.args.used.0 c.args.used.1 c.args.step.now c.index-steps-first.result c.index-steps-second.result c.from_two.result c.requires c.if-first-number.false c.if-second-number.false c.from_two.ensures
