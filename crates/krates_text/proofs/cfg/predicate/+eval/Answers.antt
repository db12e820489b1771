use Rattle.std.proofs.Common.{◌∙◌, ap, sym, map, string_bytes, arith}
use Rattle.std.proofs.lemmas.Grind.{common_steps}
use Rattle.krates_text.specs.CfgValue.{value, all_true, some_true}
use Rattle.krates_text.specs.CfgView.{tree_of, trees_of}
use Rattle.krates_text.specs.TargetTable.{target_of}
use Rattle.krates_text.proofs.CfgTrees.{tree-All, tree-Any}
use Rattle.krates_text.proofs.cfg.predicate.+eval.Goals as goal

pub eval-returns-in-All : goal.eval-returns-in-All
eval-returns-in-All t c =
    let target = target_of c.args.target.now in
    let features = map string_bytes c.args.features.now in
    c.all_hold.ensures ∙ ap (λ l. all_true target features (trees_of l)) c.as_slice.ensures.value
    ∙ sym (ap (λ p. value target features (tree_of p)) c.in-All.is ∙ ap (value target features) (tree-All c.in-All.predicates))

pub eval-returns-in-Any : goal.eval-returns-in-Any
eval-returns-in-Any t c =
    let target = target_of c.args.target.now in
    let features = map string_bytes c.args.features.now in
    c.any_holds.ensures ∙ ap (λ l. some_true target features (trees_of l)) c.as_slice-in-Any.ensures.value
    ∙ sym (ap (λ p. value target features (tree_of p)) c.in-Any.is ∙ ap (value target features) (tree-Any c.in-Any.predicates))

pub all_hold-returns : goal.all_hold-returns
all_hold-returns t c = grind (arith, common_steps)

pub all_hold-returns-then-not-eval : goal.all_hold-returns-then-not-eval
all_hold-returns-then-not-eval t c = grind (arith, common_steps)

pub all_hold-loop-predicate-preserved : goal.all_hold-loop-predicate-preserved
all_hold-loop-predicate-preserved t c = grind (arith, common_steps)

pub any_holds-returns : goal.any_holds-returns
any_holds-returns t c = grind (arith, common_steps)

pub any_holds-returns-then-eval : goal.any_holds-returns-then-eval
any_holds-returns-then-eval t c = grind (arith, common_steps)

pub any_holds-loop-predicate-preserved : goal.any_holds-loop-predicate-preserved
any_holds-loop-predicate-preserved t c = grind (arith, common_steps)
