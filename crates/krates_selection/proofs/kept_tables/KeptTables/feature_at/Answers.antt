use Rattle.krates_questions.proofs.FeatureNumbers.{number_within}
use Rattle.krates_selection.proofs.KeyedFacts.{feature_is}
use Rattle.krates_selection.specs.KeptTables.{document_in}
use Rattle.krates_selection.proofs.kept_tables.KeptTables.feature_at.Goals as goal

pub listed_feature-feature-requires : goal.listed_feature-feature-requires
listed_feature-feature-requires c =
    let k = c.requires.kept in
    record { within = number_within (document_in c.args.self.now) k.krate k.name c.args.number k.at }

pub returns : goal.returns
returns c =
    let x = c.listed_feature-feature.result in
    record {
      is = λ i f at. feature_is c.args.self.now c.args.number x.place.index c.crate_at.result x.name.now i f at c.listed_feature-feature.ensures c.crate_at.ensures.is;
      below = c.crate_at.ensures.below;
    }
