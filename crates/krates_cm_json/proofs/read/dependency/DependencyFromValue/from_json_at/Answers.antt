use Rattle.std.proofs.Common.{◌≡◌, Ok, Err, sym, ◌∙◌}
use Rattle.std.proofs.lemmas.Result.{err_from_is_err_and}
use Rattle.krates_cm_json.specs.Reading.{object}
use Rattle.krates_cm_json.specs.Tables.{dependency}
use Rattle.krates_cm_json.proofs.ZippedReading.{eleven_of_object}
use Rattle.krates_cm_json.proofs.read.dependency.DependencyFromValue.from_json_at.Goals as goal

pub returns-in_err-named : goal.returns-in_err-named
unfolding dependency
returns-in_err-named g c =
    let p = err_from_is_err_and c.from_residual-in_err-named.result c.from_residual-in_err-named.ensures.1 in
    rw (p.1, p.2) (eleven_of_object _ (object c.args.key.now (g.J.JsonRef.meaning c.args.value)) c.in_ok-expect_object.ensures
    record { is = c.required.ensures } record { is = c.optional.ensures } record { is = c.required-2.ensures } record { is = c.or_default.ensures } record { is = c.required-3.ensures }
    record { is = c.required-4.ensures } record { is = c.required-5.ensures } record { is = c.optional-2.ensures } record { is = c.optional-3.ensures } record { is = c.optional-4.ensures }
    record { is = c.optional-5.ensures }
    c.zip_four-named.ensures c.zip_four-asked.ensures c.zip_three-found.ensures (sym c.in_err-named.was ∙ c.zip_three.ensures))

pub returns : goal.returns
unfolding dependency
returns g c =
    eleven_of_object _ (object c.args.key.now (g.J.JsonRef.meaning c.args.value)) c.in_ok-expect_object.ensures
    record { is = c.required.ensures } record { is = c.optional.ensures } record { is = c.required-2.ensures } record { is = c.or_default.ensures } record { is = c.required-3.ensures }
    record { is = c.required-4.ensures } record { is = c.required-5.ensures } record { is = c.optional-2.ensures } record { is = c.optional-3.ensures } record { is = c.optional-4.ensures }
    record { is = c.optional-5.ensures }
    c.zip_four-named.ensures c.zip_four-asked.ensures c.zip_three-found.ensures (sym c.in_ok-named.was ∙ c.zip_three.ensures)
