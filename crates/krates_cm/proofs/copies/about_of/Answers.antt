use Rattle.std.proofs.Common.{◌≡◌, option_map, rules}
use Rattle.krates_cm.specs.Document.{text_view}
use Rattle.krates_cm.proofs.CopyLemmas.{same_texts}
use Rattle.krates_cm.proofs.copies.about_of.Goals as goal

pub returns : goal.returns
returns c =
    let p = c.args.pkg.now in
    let rights = c.in_ok-rights.ensures in
    let places = c.in_ok-places.ensures in
    let description : option_map text_view c.in_ok-description.description ≡ option_map text_view p.description = search (rules, c.in_ok-description.ensures) in
    let license : option_map text_view c.in_ok-rights.rights.0 ≡ option_map text_view p.license = search (rules, rights.0) in
    let license_file : option_map text_view c.in_ok-rights.rights.1 ≡ option_map text_view p.license_file = search (rules, rights.1) in
    let readme : option_map text_view c.in_ok-places.places.0 ≡ option_map text_view p.readme = search (rules, places.0) in
    let repository : option_map text_view c.in_ok-places.places.1 ≡ option_map text_view p.repository = search (rules, places.1) in
    let homepage : option_map text_view c.in_ok-places.places.2 ≡ option_map text_view p.homepage = search (rules, places.2) in
    let documentation : option_map text_view c.in_ok-places.places.3 ≡ option_map text_view p.documentation = search (rules, places.3) in
    λ i. record {
      authors = same_texts p.authors c.in_ok-authors.authors c.in_ok-authors.ensures.cases i;
      description = description i;
      license = license i;
      license_file = license_file i;
      categories = same_texts p.categories c.in_ok-rights.rights.2 rights.2 i;
      keywords = same_texts p.keywords c.in_ok-rights.rights.3 rights.3 i;
      readme = readme i;
      repository = repository i;
      homepage = homepage i;
      documentation = documentation i;
    }
