use Rattle.std.proofs.Common.{◌≡◌, ◌++◌, drop, map}
use Rattle.krates_cm.specs.Document.{node_view}
use Rattle.krates_questions.specs.FeatureTable.{listed_view, features_from}
use Rattle.krates_questions.proofs.feature_table.listed_features.Given as goal

-- the features listed so far, then those of the rest, are all
abbrev pub invariant-loop-index : goal.invariant-loop-index
invariant-loop-index l = map listed_view l.listed.items ++ features_from l.index (map node_view (drop l.index l.nodes)) ≡ features_from 0 (map node_view l.nodes)
