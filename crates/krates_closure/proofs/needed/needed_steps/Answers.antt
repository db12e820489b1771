use Rattle.std.proofs.lemmas.Result.{IfOk-weaker}
use Rattle.krates_closure.proofs.ClosureLemmas.{Derivable-given}
use Rattle.krates_closure.proofs.NeededLemmas.{IsDerivationOf-kept, below_size, step_within}
use Rattle.krates_closure.proofs.needed.needed_steps.Goals as goal

pub needed_facts-requires-clause-below : goal.needed_facts-requires-clause-below
needed_facts-requires-clause-below c =
    below_size c.args.clauses.now.list c.args.clauses.now.size c.args.fact (rw c.as_slice-list.ensures.clauses at c.as_slice-list.ensures.below)
    (Derivable-given c.args.clauses.now.list c.args.steps.now c.requires.derivation c.args.fact c.requires.given)

pub marked_steps-requires : goal.marked_steps-requires
marked_steps-requires c step m =
    rw c.as_slice-list.ensures.clauses (step_within c.args.clauses.now.list c.args.steps.now step c.requires.derivation m)

pub returns : goal.returns
returns c =
    IfOk-weaker c.marked_steps.result _ _ (λ needed is. rw is (IsDerivationOf-kept c.args.clauses.now.list c.in_ok-marks.marks.items c.args.steps.now c.args.fact c.requires.derivation c.requires.given c.in_ok-marks.ensures))
    (rw (c.as_slice-list.ensures.clauses, c.deref.ensures.value) at c.marked_steps.ensures)
