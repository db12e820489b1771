use Rattle.std.proofs.Common.{◌<◌, ◌^◌, ◌∙◌, ap, sym, subst}
use Rattle.krates_text.specs.CfgValue.{count, count_among}
use Rattle.krates_text.specs.CfgView.{tree_of, trees_of}
use Rattle.krates_text.proofs.CfgTrees.{tree-All, tree-Any}
use Rattle.krates_text.proofs.cfg.predicate.+count.Goals as goal

pub count-returns-in-All : goal.count-returns-in-All
count-returns-in-All t c =
    let same = ap (λ p. count (tree_of p)) c.in-All.is ∙ ap count (tree-All c.in-All.predicates) ∙ ap (λ l. count_among (trees_of l)) (sym c.as_slice.ensures.value) in
    λ h. c.count_among.ensures (subst (λ n. n < 2 ^ 64) same h) ∙ sym same

pub count-returns-in-Any : goal.count-returns-in-Any
count-returns-in-Any t c =
    let same = ap (λ p. count (tree_of p)) c.in-Any.is ∙ ap count (tree-Any c.in-Any.predicates) ∙ ap (λ l. count_among (trees_of l)) (sym c.as_slice-in-Any.ensures.value) in
    λ h. c.count_among-in-Any.ensures (subst (λ n. n < 2 ^ 64) same h) ∙ sym same
