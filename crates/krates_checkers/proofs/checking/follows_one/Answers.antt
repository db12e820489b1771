use Rattle.std.proofs.lemmas.Result.{IfOk-weaker}
use Rattle.krates_questions.specs.Context.{rules_of}
use Rattle.krates_checkers.proofs.Checked.{one_told}
use Rattle.krates_checkers.proofs.checking.follows_one.Goals as goal

pub returns : goal.returns
returns c =
    let q = rules_of c.args.context.now in
    IfOk-weaker c.from_one.result _ _ (λ b told. one_told q c.args.steps.now c.args.number c.args.used c.args.step.now c.index-steps-used.result b c.requires c.if-used-number.false told) c.from_one.ensures
