use Rattle.std.proofs.Common.{◌<◌, ◌^◌, ◌++◌, ◌∙◌, ap, sym, length, arith}
use Rattle.std.specs.Prelude.{codes}
use Rattle.krates_text.specs.CfgView.{tree_of}
use Rattle.krates_text.proofs.CfgParsing.{parsed, fault_is, given_fault, expression_fits}
use Rattle.krates_text.proofs.cfg.expression.Expression.parse.Goals as goal

pub returns-in_err-predicate-clause-fault : goal.returns-in_err-predicate-clause-fault
returns-in_err-predicate-clause-fault c =
    let cut = c.in-Some.ensures.cases in
    given_fault c.from_residual.result c.in_err-predicate.field-0.0 c.args.text.now c.from_residual.ensures.1
    (fault_is c.args.text.now c.in-Some.behind.now c.in_err-predicate.field-0.0 (cut.1.1 ∙ ap (λ l. codes "cfg(" ++ l) (sym cut.2)) c.in_err-predicate.ensures)

pub invariant_of-result : goal.invariant_of-result
invariant_of-result c =
    let cut = c.in-Some.ensures.cases in
    let tree = tree_of c.in_ok-predicate.predicate in
    let fits = expression_fits c.args.text.now tree (parsed c.args.text.now c.in-Some.behind.now tree (cut.1.1 ∙ ap (λ l. codes "cfg(" ++ l) (sym cut.2)) c.in_ok-predicate.ensures) in
    let small : length c.args.text.now < 2 ^ 64 = omega arith in
    record { countable = omega arith }

pub returns-clause-found : goal.returns-clause-found
returns-clause-found c =
    let cut = c.in-Some.ensures.cases in
    parsed c.args.text.now c.in-Some.behind.now (tree_of c.in_ok-predicate.predicate) (cut.1.1 ∙ ap (λ l. codes "cfg(" ++ l) (sym cut.2)) c.in_ok-predicate.ensures
