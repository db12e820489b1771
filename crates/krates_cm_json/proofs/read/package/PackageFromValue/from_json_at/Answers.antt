use Rattle.std.proofs.Common.{◌≡◌, Ok, Err, sym, ◌∙◌}
use Rattle.std.proofs.lemmas.Result.{err_from_is_err_and}
use Rattle.krates_cm_json.specs.Reading.{object}
use Rattle.krates_cm_json.specs.Tables.{package_reader}
use Rattle.krates_cm_json.proofs.ZippedReading.{ten_of_object}
use Rattle.krates_cm_json.proofs.read.package.PackageFromValue.from_json_at.Goals as goal

pub returns-in_err-named : goal.returns-in_err-named
unfolding package_reader
returns-in_err-named g c =
    let p = err_from_is_err_and c.from_residual-in_err-named.result c.from_residual-in_err-named.ensures.1 in
    rw (p.1, p.2) (ten_of_object _ (object c.args.key.now (g.J.JsonRef.meaning c.args.value)) c.in_ok-expect_object.ensures
    record { is = c.required.ensures } record { is = c.required-2.ensures } record { is = c.required-3.ensures } record { is = c.optional.ensures } record { is = c.required-4.ensures }
    record { is = c.required-5.ensures } record { is = c.required-6.ensures } record { is = c.required-7.ensures } record { is = c.from_json_at.ensures } record { is = c.from_json_at-2.ensures }
    c.zip_four-named.ensures c.zip_three-parts.ensures c.zip_three-rest.ensures (sym c.in_err-named.was ∙ c.zip_three.ensures))

pub returns : goal.returns
unfolding package_reader
returns g c =
    ten_of_object _ (object c.args.key.now (g.J.JsonRef.meaning c.args.value)) c.in_ok-expect_object.ensures
    record { is = c.required.ensures } record { is = c.required-2.ensures } record { is = c.required-3.ensures } record { is = c.optional.ensures } record { is = c.required-4.ensures }
    record { is = c.required-5.ensures } record { is = c.required-6.ensures } record { is = c.required-7.ensures } record { is = c.from_json_at.ensures } record { is = c.from_json_at-2.ensures }
    c.zip_four-named.ensures c.zip_three-parts.ensures c.zip_three-rest.ensures (sym c.in_ok-named.was ∙ c.zip_three.ensures)
