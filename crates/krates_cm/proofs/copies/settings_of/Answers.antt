use Rattle.std.proofs.Common.{◌≡◌, option_map, rules}
use Rattle.semver.specs.Identifiers.{parts_of}
use Rattle.krates_cm.specs.Document.{text_view, texts_view}
use Rattle.krates_cm.proofs.CopyLemmas.{same_parts, same_texts}
use Rattle.krates_cm.proofs.copies.settings_of.Goals as goal

pub returns : goal.returns
returns c =
    let p = c.args.pkg.now in
    let told = c.in_ok-told.ensures in
    let links : option_map text_view c.in_ok-told.told.0 ≡ option_map text_view p.links = search (rules, told.0) in
    let publish : option_map texts_view c.in_ok-told.told.1 ≡ option_map texts_view p.publish = search (rules, told.1, same_texts) in
    let default_run : option_map text_view c.in_ok-told.told.2 ≡ option_map text_view p.default_run = search (rules, told.2) in
    let rust_version : option_map parts_of c.in_ok-told.told.3 ≡ option_map parts_of p.rust_version = search (rules, told.3, same_parts) in
    λ i. record {
      edition = p.edition;
      metadata = c.in_ok-metadata.ensures.cases i;
      links = links i;
      publish = publish i;
      default_run = default_run i;
      rust_version = rust_version i;
    }
