use Rattle.krates_cli.specs.Options.{meant_request}
use Rattle.krates_foreign.proofs.CallLemmas.{unlisted}
use Rattle.krates_foreign.proofs.calls.listed.Goals as goal

pub returns-in-Ok-clause-listed : goal.returns-in-Ok-clause-listed
returns-in-Ok-clause-listed c = (c.in_ok-metadata.metadata, c.in_ok-metadata.ensures.read, c.in-Ok.ensures.listed)

pub returns-in-Err-clause-refused : goal.returns-in-Err-clause-refused
returns-in-Err-clause-refused c =
    unlisted (meant_request c.args.options.now) c.args.document.now c.in_ok-metadata.metadata c.in-Err.cause c.of_listing.result c.in_ok-metadata.ensures.read c.in-Err.ensures.refused c.of_listing.ensures
