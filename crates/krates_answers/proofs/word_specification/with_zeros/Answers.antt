use Rattle.std.proofs.Common.{◌∙◌}
use Rattle.krates_answers.proofs.WordSpecificationLemmas.{completed, fault_told, not_completed}
use Rattle.krates_answers.proofs.word_specification.with_zeros.Goals as goal

pub returns-in-Ok : goal.returns-in-Ok
returns-in-Ok c =
    completed c.args.zeros.now c.args.word.now c.as_str.result.now (c.as_str.ensures.value ∙ c.in_ok-text.ensures.ok) c.in-Ok.spec c.in-Ok.ensures.read c.without_version.result c.without_version.ensures

pub returns-in-Err-InvalidPkgSpec : goal.returns-in-Err-InvalidPkgSpec
returns-in-Err-InvalidPkgSpec c =
    let e = c.in-Err-InvalidPkgSpec in
    not_completed c.args.zeros.now c.args.word.now c.as_str.result.now (c.as_str.ensures.value ∙ c.in_ok-text.ensures.ok) e.field-0-0.now (fault_told c.as_str.result.now e.field-0 e.field-0-0 e.field-0-is e.ensures.refused)
