use Rattle.std.proofs.Common.{◌∷◌, map, string_bytes, sym, ap, ◌∙◌}
use Rattle.std.proofs.lemmas.List.{nil_from_length}
use Rattle.std.proofs.lemmas.Result.{err_from_is_err_and}
use Rattle.krates_cli.proofs.OptionsLemmas.{one_read, all_read, unread_left}
use Rattle.krates_cli.proofs.options.options_of.Goals as goal

pub loop-option-preserved : goal.loop-option-preserved
loop-option-preserved c =
    let split = ap (λ l. map string_bytes l) c.in-Some.ensures.cases.0 ∙ ap (λ t. t ∷ map string_bytes c.in-Some.values.now) (sym c.deref.ensures) in
    one_read _ _ _ _ _ _ split c.in_ok-rest.ensures.read c.loop-option.invariant

pub returns-in_err-rest-clause-refused : goal.returns-in_err-rest-clause-refused
returns-in_err-rest-clause-refused c =
    let split = ap (λ l. map string_bytes l) c.in-Some.ensures.cases.0 ∙ ap (λ t. t ∷ map string_bytes c.in-Some.values.now) (sym c.deref.ensures) in
    let p = err_from_is_err_and c.from_residual.result c.from_residual.ensures.1 in
    rw p.1 (unread_left _ _ _ _ _ c.in_err-rest.field-0.0 p.0 split c.in_err-rest.ensures.refused p.2 c.loop-option.invariant)

pub returns-clause-read : goal.returns-clause-read
returns-clause-read c =
    all_read _ _ _ (ap (λ l. map string_bytes l) (nil_from_length c.loop-option.rest.now c.in_default.ensures.cases)) c.loop-option.invariant
