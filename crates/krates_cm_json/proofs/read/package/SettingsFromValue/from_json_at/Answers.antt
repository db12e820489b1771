use Rattle.std.proofs.Common.{◌≡◌, Ok, Err, option_map, sym, ◌∙◌, rules}
use Rattle.std.proofs.lemmas.Result.{err_from_is_err_and}
use Rattle.semver.specs.Identifiers.{parts_of}
use Rattle.krates_cm_json.specs.Tables.{settings}
use Rattle.krates_cm_json.proofs.ZippedReading.{six_read}
use Rattle.krates_cm_json.proofs.read.package.SettingsFromValue.from_json_at.Goals as goal

pub returns-in_err-build : goal.returns-in_err-build
unfolding settings
returns-in_err-build g c =
    let p = err_from_is_err_and c.from_residual.result c.from_residual.ensures.1 in
    rw (p.1, p.2) (six_read _ record { is = c.or_default.ensures } record { is = c.any_or_null.ensures } record { is = c.optional.ensures } record { is = c.optional-publish.ensures } record { is = c.optional-default_run.ensures } record { is = c.optional-rust_version.ensures }
    c.zip_three-build.ensures (sym c.in_err-build.was ∙ c.zip_four.ensures))

pub returns : goal.returns
unfolding settings
returns g c =
    let version : option_map parts_of c.map.result ≡ option_map (λ v. parts_of v.0) c.in_ok-build.rust_version = search rules in
    rw version (six_read _ record { is = c.or_default.ensures } record { is = c.any_or_null.ensures } record { is = c.optional.ensures } record { is = c.optional-publish.ensures } record { is = c.optional-default_run.ensures } record { is = c.optional-rust_version.ensures }
    c.zip_three-build.ensures (sym c.in_ok-build.was ∙ c.zip_four.ensures))
