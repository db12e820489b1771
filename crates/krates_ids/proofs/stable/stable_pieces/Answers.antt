use Rattle.std.proofs.Common.{arith}
use Rattle.std.proofs.lemmas.Grind.{common_steps}
use Rattle.krates_ids.proofs.StableLemmas.{IsStableForm-no_hash, IsStableForm-slash, IsStableForm-question_mark, IsStableForm-no_name}
use Rattle.krates_ids.proofs.stable.stable_pieces.Goals as goal

pub returns-in_default-clause-none : goal.returns-in_default-clause-none
returns-in_default-clause-none c = IsStableForm-no_hash _ c.in_default.ensures

pub returns-then-has-clause-none : goal.returns-then-has-clause-none
returns-then-has-clause-none c =
    IsStableForm-slash _ _ _ c.in-Some.ensures c.in_default-cut_first.ensures (rw c.if-has.true at c.has.ensures)

pub returns-then-has-2-clause-none : goal.returns-then-has-2-clause-none
returns-then-has-2-clause-none c =
    IsStableForm-question_mark _ _ _ c.in-Some.ensures c.in_default-cut_first.ensures (rw c.if-has-2.true at c.has-2.ensures)

pub returns-in_default-name_in-clause-none : goal.returns-in_default-name_in-clause-none
returns-in_default-name_in-clause-none c =
    IsStableForm-no_name _ _ _ c.in-Some.ensures c.in_default-cut_first.ensures c.in_default-name_in.ensures

pub returns : goal.returns
returns c = grind (arith, common_steps)
