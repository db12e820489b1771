use Rattle.std.proofs.Common.{◌∙◌, ap, sym, map, string_bytes, arith}
use Rattle.std.proofs.lemmas.Grind.{common_steps}
use Rattle.krates_text.specs.CfgHolding.{value_among, all_among, some_among, pair_bytes}
use Rattle.krates_text.specs.CfgView.{tree_of, trees_of}
use Rattle.krates_text.proofs.CfgTrees.{tree-All, tree-Any}
use Rattle.krates_text.proofs.cfg.holding.+holds.Goals as goal

pub holds-returns-in-All : goal.holds-returns-in-All
holds-returns-in-All t c =
    let words = map string_bytes c.args.words.now in
    let pairs = map pair_bytes c.args.pairs.now in
    c.all_hold.ensures ∙ ap (λ l. all_among words pairs (trees_of l)) c.as_slice.ensures.value
    ∙ sym (ap (λ p. value_among words pairs (tree_of p)) c.in-All.is ∙ ap (value_among words pairs) (tree-All c.in-All.predicates))

pub holds-returns-in-Any : goal.holds-returns-in-Any
holds-returns-in-Any t c =
    let words = map string_bytes c.args.words.now in
    let pairs = map pair_bytes c.args.pairs.now in
    c.any_holds.ensures ∙ ap (λ l. some_among words pairs (trees_of l)) c.as_slice-in-Any.ensures.value
    ∙ sym (ap (λ p. value_among words pairs (tree_of p)) c.in-Any.is ∙ ap (value_among words pairs) (tree-Any c.in-Any.predicates))

pub all_hold-returns : goal.all_hold-returns
all_hold-returns t c = grind (arith, common_steps)

pub all_hold-returns-then-not-holds : goal.all_hold-returns-then-not-holds
all_hold-returns-then-not-holds t c = grind (arith, common_steps)

pub all_hold-loop-predicate-preserved : goal.all_hold-loop-predicate-preserved
all_hold-loop-predicate-preserved t c = grind (arith, common_steps)

pub any_holds-returns : goal.any_holds-returns
any_holds-returns t c = grind (arith, common_steps)

pub any_holds-returns-then-holds : goal.any_holds-returns-then-holds
any_holds-returns-then-holds t c = grind (arith, common_steps)

pub any_holds-loop-predicate-preserved : goal.any_holds-loop-predicate-preserved
any_holds-loop-predicate-preserved t c = grind (arith, common_steps)
