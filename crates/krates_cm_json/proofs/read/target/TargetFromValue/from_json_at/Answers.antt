use Rattle.std.proofs.Common.{◌≡◌, Ok, Err, sym, ◌∙◌}
use Rattle.std.proofs.lemmas.List.{map-id}
use Rattle.std.proofs.lemmas.Result.{err_from_is_err_and}
use Rattle.krates_cm_json.specs.Reading.{object}
use Rattle.krates_cm_json.specs.Tables.{target}
use Rattle.krates_cm_json.proofs.ZippedReading.{nine_of_object}
use Rattle.krates_cm_json.proofs.read.target.TargetFromValue.from_json_at.Goals as goal

pub returns-in_err-kinds : goal.returns-in_err-kinds
unfolding target
returns-in_err-kinds g c =
    let p = err_from_is_err_and c.from_residual-in_err-kinds.result c.from_residual-in_err-kinds.ensures.1 in
    rw (p.1, p.2) (nine_of_object _ (object c.args.key.now (g.J.JsonRef.meaning c.args.value)) c.in_ok-expect_object.ensures
    record { is = c.required.ensures } record { is = c.required-2.ensures } record { is = c.list_or_empty.ensures } record { is = c.list_or_empty-2.ensures } record { is = c.required-3.ensures }
    record { is = c.or_default.ensures } record { is = c.or_default-2.ensures } record { is = c.or_default-3.ensures } record { is = c.or_default-4.ensures }
    c.zip_three-kinds.ensures c.zip_three-source.ensures c.zip_three-uses.ensures (sym c.in_err-kinds.was ∙ c.zip_three.ensures))

pub returns : goal.returns
unfolding target
returns g c =
    rw (← map-id c.in_ok-kinds.kinds.1.items, ← map-id c.in_ok-kinds.kinds.2.items) (nine_of_object _ (object c.args.key.now (g.J.JsonRef.meaning c.args.value)) c.in_ok-expect_object.ensures
    record { is = c.required.ensures } record { is = c.required-2.ensures } record { is = c.list_or_empty.ensures } record { is = c.list_or_empty-2.ensures } record { is = c.required-3.ensures }
    record { is = c.or_default.ensures } record { is = c.or_default-2.ensures } record { is = c.or_default-3.ensures } record { is = c.or_default-4.ensures }
    c.zip_three-kinds.ensures c.zip_three-source.ensures c.zip_three-uses.ensures (sym c.in_ok-kinds.was ∙ c.zip_three.ensures))
