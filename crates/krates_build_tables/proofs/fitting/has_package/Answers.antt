use Rattle.std.proofs.Common.{◌∙◌, option_map}
use Rattle.krates_cm.specs.Document.{package_view}
use Rattle.krates_questions.specs.Lookup.{resolved_view}
use Rattle.krates_rules.specs.Resolved.{id_of}
use Rattle.krates_build_tables.proofs.FeatureLemmas.{some_mapped}
use Rattle.krates_build_tables.proofs.PairLemmas.{package_told}
use Rattle.krates_build_tables.proofs.fitting.has_package.Goals as goal

pub returns : goal.returns
returns c =
    package_told (resolved_view c.args.document.now) (id_of c.args.krate.now) (option_map (λ pkg. package_view pkg.now) c.package_of.result) c.is_some.result c.package_of.ensures
    (c.is_some.ensures ∙ some_mapped (λ pkg. package_view pkg.now) c.package_of.result)
