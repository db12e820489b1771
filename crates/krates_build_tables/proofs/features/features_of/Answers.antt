use Rattle.std.proofs.Common.{rules}
use Rattle.std.proofs.lemmas.Result.{IfOk-weaker}
use Rattle.krates_cm.specs.Document.{package_view}
use Rattle.krates_questions.specs.Lookup.{resolved_view}
use Rattle.krates_rules.specs.Resolved.{id_of}
use Rattle.krates_text.proofs.FeatureReference.{one_reference}
use Rattle.krates_build_tables.proofs.FeatureLemmas.{features_here, no_features}
use Rattle.krates_build_tables.proofs.features.features_of.Goals as goal

pub returns-in-Some : goal.returns-in-Some
returns-in-Some c =
    IfOk-weaker c.read_features.result _ _ (λ m reads. features_here (resolved_view c.args.document.now) (id_of c.args.krate.now) (package_view c.in-Some.pkg.now) m one_reference c.agrees.ensures.distinct c.in-Some.ensures reads)
    c.read_features.ensures

pub returns-in-None : goal.returns-in-None
returns-in-None c = no_features (resolved_view c.args.document.now) (id_of c.args.krate.now) c.new.result c.in-None.ensures (λ f. search rules)
