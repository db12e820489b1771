use Rattle.std.proofs.Common.{string_bytes, subst}
use Rattle.krates_cli.specs.Options.{meant_request}
use Rattle.krates_cli.proofs.ListingLemmas.{text_listed, text_refused}
use Rattle.krates_cm.specs.Document.{Text, metadata_view}
use Rattle.krates_cm_json.specs.Parsing.{IsDocument}
use Rattle.krates_cli.proofs.listing.listing.Goals as goal

pub returns-clause-listed : goal.returns-clause-listed
returns-clause-listed c =
    let m = c.in_ok-metadata.metadata in
    let document = subst (λ (text : Text). IsDocument text (metadata_view m)) c.as_str.ensures.value c.in_ok-metadata.ensures.document in
    text_listed (meant_request c.args.options.now) (string_bytes c.args.text) m c.listing_of.result document c.listing_of.ensures.listed

pub returns-clause-refused : goal.returns-clause-refused
returns-clause-refused c =
    let m = c.in_ok-metadata.metadata in
    let document = subst (λ (text : Text). IsDocument text (metadata_view m)) c.as_str.ensures.value c.in_ok-metadata.ensures.document in
    text_refused (meant_request c.args.options.now) (string_bytes c.args.text) m c.listing_of.result document c.listing_of.ensures.refused
