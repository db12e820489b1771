use Rattle.krates_cli.specs.Options.{meant_request}
use Rattle.krates_cli.proofs.ListingLemmas.{cargo_listed, cargo_refused}
use Rattle.krates_cli.proofs.listing.listing_by_cargo.Goals as goal

pub returns-clause-listed : goal.returns-clause-listed
returns-clause-listed g c =
    cargo_listed (meant_request c.args.options.now) c.in_ok-metadata.metadata c.listing_of.result c.in_ok-metadata.ensures.answer c.listing_of.ensures.listed

pub returns-clause-refused : goal.returns-clause-refused
returns-clause-refused g c =
    cargo_refused (meant_request c.args.options.now) c.in_ok-metadata.metadata c.listing_of.result c.in_ok-metadata.ensures.answer c.listing_of.ensures.refused
