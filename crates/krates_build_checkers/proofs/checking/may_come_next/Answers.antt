use Rattle.krates_build_checkers.proofs.GivenSteps.{given_before, lacks_premise, told_next}
use Rattle.krates_build_checkers.proofs.checking.may_come_next.Goals as goal

pub returns-then-contains : goal.returns-then-contains
returns-then-contains c before h = given_before c.args.tables.now c.args.step.now c.args.given.now c.contains.result c.contains.ensures c.if-contains.true before h

pub returns-then-are_given : goal.returns-then-are_given
returns-then-are_given c before h = told_next c.args.tables.now c.args.step.now c.args.given.now c.contains.result c.are_given.result c.is_row.result c.contains.ensures c.if-contains.false (rw c.deref.ensures.value at c.are_given.ensures) c.if-are_given.true
    c.is_row.ensures before h

pub returns-else-are_given : goal.returns-else-are_given
returns-else-are_given c before h = lacks_premise c.args.tables.now c.args.step.now c.args.given.now c.are_given.result (rw c.deref.ensures.value at c.are_given.ensures) c.if-are_given.false before h
