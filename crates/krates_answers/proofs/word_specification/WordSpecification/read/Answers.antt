use Rattle.krates_ids.specs.PackageSpecification.{spec_view}
use Rattle.krates_answers.specs.WordSpecification.{whole}
use Rattle.krates_answers.proofs.WordSpecificationLemmas.{asks_but_for_numbers, asks_for_none, fault_told}
use Rattle.krates_answers.proofs.word_specification.WordSpecification.read.Goals as goal

pub returns-in-Ok-clause-read : goal.returns-in-Ok-clause-read
returns-in-Ok-clause-read c = whole (spec_view c.in-Ok.spec) c.in-Ok.ensures.read

pub unread-requires : goal.unread-requires
unread-requires c =
    let e = c.in-Err-InvalidPkgSpec in
    let word = c.args.word.now in
    asks_for_none word e.what.now (fault_told word e.field-0 e.what e.field-0-is e.ensures.refused) c.in_ok-asked.field-0 c.in_ok-asked.ensures c.in-None.is

pub returns-in-Some-clause-read : goal.returns-in-Some-clause-read
returns-in-Some-clause-read c =
    let e = c.in-Err-InvalidPkgSpec in
    let word = c.args.word.now in
    asks_but_for_numbers word e.what.now (fault_told word e.field-0 e.what e.field-0-is e.ensures.refused) c.in_ok-asked.field-0 c.in-Some.asked c.in_ok-asked.ensures c.in-Some.is
