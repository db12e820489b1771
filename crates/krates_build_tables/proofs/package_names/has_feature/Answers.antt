use Rattle.std.proofs.Common.{◌≡◌, rules, is_some}
use Rattle.std.specs.BTreeMap.{get_by_text}
use Rattle.krates_questions.specs.Lookup.{resolved_view}
use Rattle.krates_rules.specs.Resolved.{id_of}
use Rattle.krates_build_tables.proofs.PackageNames.{feature_told}
use Rattle.krates_build_tables.proofs.package_names.has_feature.Goals as goal

pub returns-in-Some : goal.returns-in-Some
returns-in-Some c =
    let found : c.contains_key.result ≡ is_some (get_by_text c.in-Some.pkg.now.features c.args.name.now) = search rules in
    feature_told (resolved_view c.args.document.now) (id_of c.args.id.now) c.args.name.now c.in-Some.pkg.now c.contains_key.result c.agrees.ensures.distinct c.in-Some.ensures found

pub returns-in-None : goal.returns-in-None
returns-in-None c = (λ t. absurd cc, λ h. absurd (c.in-None.ensures h.pkg h.has_package))
