use Rattle.krates_answers.specs.WordSpecification.{asked_view}
use Rattle.krates_answers.proofs.WordSpecificationLemmas.{lacks_no_number, lacks_the_last, lacks_the_last_two}
use Rattle.krates_answers.proofs.word_specification.lacking_numbers.Goals as goal

pub returns-in-Some : goal.returns-in-Some
returns-in-Some c = lacks_the_last c.args.word.now c.in_ok-whole.field-0 c.in-Some.whole (asked_view c.with.result) c.in_ok-whole.ensures c.in-Some.is c.with.ensures

pub returns-in-Some-2 : goal.returns-in-Some-2
returns-in-Some-2 c =
    lacks_the_last_two c.args.word.now c.in_ok-whole.field-0 c.in_ok-whole-2.field-0 c.in-Some-2.whole (asked_view c.with-in-Some-2.result) c.in_ok-whole.ensures c.in_default.is c.in_ok-whole-2.ensures c.in-Some-2.is c.with-in-Some-2.ensures

pub returns-in-None : goal.returns-in-None
returns-in-None c = lacks_no_number c.args.word.now c.in_ok-whole.field-0 c.in_ok-whole-2.field-0 c.in_ok-whole.ensures c.in_default.is c.in_ok-whole-2.ensures c.in-None.is
