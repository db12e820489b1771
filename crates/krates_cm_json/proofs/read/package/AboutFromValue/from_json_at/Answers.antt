use Rattle.std.proofs.Common.{◌≡◌, Ok, Err, sym, ◌∙◌}
use Rattle.std.proofs.lemmas.Result.{err_from_is_err_and}
use Rattle.krates_cm_json.specs.Tables.{about}
use Rattle.krates_cm_json.proofs.ZippedReading.{ten_read}
use Rattle.krates_cm_json.proofs.read.package.AboutFromValue.from_json_at.Goals as goal

pub returns-in_err-terms : goal.returns-in_err-terms
unfolding about
returns-in_err-terms g c =
    let p = err_from_is_err_and c.from_residual.result c.from_residual.ensures.1 in
    rw (p.1, p.2) (ten_read _ record { is = c.list_or_empty.ensures } record { is = c.optional.ensures } record { is = c.optional-2.ensures } record { is = c.optional-3.ensures } record { is = c.list_or_empty-2.ensures } record { is = c.list_or_empty-3.ensures } record { is = c.optional-4.ensures } record { is = c.optional-5.ensures } record { is = c.optional-6.ensures } record { is = c.optional-7.ensures }
    c.zip_four-terms.ensures c.zip_three-index.ensures c.zip_three-links.ensures (sym c.in_err-terms.was ∙ c.zip_three.ensures))

pub returns : goal.returns
unfolding about
returns g c =
    ten_read _ record { is = c.list_or_empty.ensures } record { is = c.optional.ensures } record { is = c.optional-2.ensures } record { is = c.optional-3.ensures } record { is = c.list_or_empty-2.ensures } record { is = c.list_or_empty-3.ensures } record { is = c.optional-4.ensures } record { is = c.optional-5.ensures } record { is = c.optional-6.ensures } record { is = c.optional-7.ensures }
    c.zip_four-terms.ensures c.zip_three-index.ensures c.zip_three-links.ensures (sym c.in_ok-terms.was ∙ c.zip_three.ensures)
