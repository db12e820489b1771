use Rattle.krates_ids.specs.Identity.{no_opaque_form, no_stable_form, bad_escape}
use Rattle.krates_cli.proofs.OptionsLemmas.{no_id}
use Rattle.krates_cli.proofs.options.kid_of.Goals as goal

pub returns-in-Err-Opaque-clause-refused : goal.returns-in-Err-Opaque-clause-refused
returns-in-Err-Opaque-clause-refused c =
    let fault = rw (c.in-Err-Opaque.is, c.in-Err-Opaque.field-0-is) at c.try_from.ensures.refused in
    no_id c.args.word.now (record { repr = c.in_ok-repr.repr }) no_opaque_form c.one_reading.ensures.no_fault_beside c.in_ok-repr.ensures.ok fault.1

pub returns-in-Err-Stable-clause-refused : goal.returns-in-Err-Stable-clause-refused
returns-in-Err-Stable-clause-refused c =
    let fault = rw (c.in-Err-Stable.is, c.in-Err-Stable.field-0-is) at c.try_from.ensures.refused in
    no_id c.args.word.now (record { repr = c.in_ok-repr.repr }) no_stable_form c.one_reading.ensures.no_fault_beside c.in_ok-repr.ensures.ok fault.1

pub returns-clause-refused : goal.returns-clause-refused
returns-clause-refused c =
    let fault = rw (c.in-Err-Escape.is, c.in-Err-Escape.field-0-is) at c.try_from.ensures.refused in
    no_id c.args.word.now (record { repr = c.in_ok-repr.repr }) bad_escape c.one_reading.ensures.no_fault_beside c.in_ok-repr.ensures.ok fault.1
