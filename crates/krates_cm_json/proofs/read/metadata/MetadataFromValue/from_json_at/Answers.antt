use Rattle.std.proofs.Common.{◌≡◌, Ok, Err, sym, ◌∙◌}
use Rattle.std.proofs.lemmas.Result.{err_from_is_err_and}
use Rattle.krates_cm_json.specs.Reading.{object}
use Rattle.krates_cm_json.specs.Tables.{metadata}
use Rattle.krates_cm_json.proofs.ZippedReading.{nine_of_object}
use Rattle.krates_cm_json.proofs.read.metadata.MetadataFromValue.from_json_at.Goals as goal

pub returns-in_err-packages : goal.returns-in_err-packages
unfolding metadata
returns-in_err-packages g c =
    let p = err_from_is_err_and c.from_residual-in_err-packages.result c.from_residual-in_err-packages.ensures.1 in
    rw (p.1, p.2) (nine_of_object _ (object c.args.key.now (g.J.JsonRef.meaning c.args.value)) c.in_ok-expect_object.ensures
    record { is = c.required.ensures } record { is = c.required-2.ensures } record { is = c.or_default.ensures } record { is = c.optional.ensures } record { is = c.required-3.ensures }
    record { is = c.required-4.ensures } record { is = c.optional-2.ensures } record { is = c.any_or_null.ensures } record { is = c.or_default-2.ensures }
    c.zip_three-packages.ensures c.zip_three-graph.ensures c.zip_three-rest.ensures (sym c.in_err-packages.was ∙ c.zip_three.ensures))

pub returns : goal.returns
unfolding metadata
returns g c =
    nine_of_object _ (object c.args.key.now (g.J.JsonRef.meaning c.args.value)) c.in_ok-expect_object.ensures
    record { is = c.required.ensures } record { is = c.required-2.ensures } record { is = c.or_default.ensures } record { is = c.optional.ensures } record { is = c.required-3.ensures }
    record { is = c.required-4.ensures } record { is = c.optional-2.ensures } record { is = c.any_or_null.ensures } record { is = c.or_default-2.ensures }
    c.zip_three-packages.ensures c.zip_three-graph.ensures c.zip_three-rest.ensures (sym c.in_ok-packages.was ∙ c.zip_three.ensures)
