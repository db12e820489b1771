use Rattle.std.proofs.Common.{◌≡◌, rules, string_bytes}
use Rattle.std.proofs.lemmas.Result.{err_from_is_err_and}
use Rattle.krates_cli.specs.Options.{meant_request}
use Rattle.krates_cli.proofs.ListingLemmas.{begun, run_refused}
use Rattle.krates_cli.proofs.listing.run.Goals as goal

pub returns-clause-beginning : goal.returns-clause-beginning
returns-clause-beginning g c failed =
    let text = string_bytes c.in-Ok.text in
    let same : text ≡ c.in_ok-bytes.bytes.items = search rules in
    begun _ _ _ text _ c.as_bytes.result.now _ _ c.in_ok-bytes.ensures.all c.listing.ensures.is_text same c.in_ok-lines.ensures.listed c.as_bytes.ensures.value (rw failed at c.write_all.ensures.beginning)

pub returns-in_err-lines-clause-refused : goal.returns-in_err-lines-clause-refused
returns-in_err-lines-clause-refused g c =
    let text = string_bytes c.in-Ok.text in
    let same : text ≡ c.in_ok-bytes.bytes.items = search rules in
    let p = err_from_is_err_and c.from_residual-in_err-lines.result c.from_residual-in_err-lines.ensures.1 in
    rw p.1 (run_refused (meant_request c.args.options.now) _ _ text c.in_err-lines.field-0.0 p.0 c.in_ok-bytes.ensures.all c.listing.ensures.is_text same c.in_err-lines.ensures.refused p.2)
