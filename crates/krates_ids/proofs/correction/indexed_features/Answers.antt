use Rattle.std.proofs.Common.{◌≡◌, Some, None, map, rules, tests}
use Rattle.std.specs.BTreeMap.{get_by_text}
use Rattle.krates_cm.specs.Document.{text_view, package_view}
use Rattle.krates_cm.specs.Queries.{crates_io}
use Rattle.krates_ids.specs.Correction.{index_view, index_version_view}
use Rattle.krates_ids.proofs.IndexLemmas.{answer_at, indexed_as, not_indexed}
use Rattle.krates_ids.proofs.correction.indexed_features.Goals as goal

pub returns-in_default : goal.returns-in_default
returns-in_default c features =
    let name = text_view c.args.pkg.now.name in
    let found : get_by_text c.args.answer.now.krates name ≡ None = search rules in
    not_indexed (index_view c.args.answer.now) (package_view c.args.pkg.now) features None (answer_at c.args.answer.now name None found) (λ versions e. cc)

pub returns-in-Some-known : goal.returns-in-Some-known
returns-in-Some-known c =
    let name = text_view c.args.pkg.now.name in
    let krate = c.in-Some-known.krate in
    let index = index_view c.args.answer.now in
    let pkg = package_view c.args.pkg.now in
    let versions = map index_version_view krate.versions.items in
    let found : get_by_text c.args.answer.now.krates name ≡ Some (Some krate) = search rules in
    let source : pkg.source ≡ Some crates_io = c.is_of_crates_io.ensures.0 (search (rules, tests)) in
    indexed_as index pkg versions c.features_of.result source (answer_at c.args.answer.now name (Some (Some krate)) found) (rw c.deref.ensures.value at c.features_of.ensures)

pub returns-in-None : goal.returns-in-None
returns-in-None c features =
    let name = text_view c.args.pkg.now.name in
    let found : get_by_text c.args.answer.now.krates name ≡ Some None = search rules in
    not_indexed (index_view c.args.answer.now) (package_view c.args.pkg.now) features (Some None) (answer_at c.args.answer.now name (Some None) found) (λ versions e. cc)
