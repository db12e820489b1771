use Rattle.std.proofs.Common.{◌≡◌, ◌++◌, drop, map}
use Rattle.krates_cm.specs.Document.{text_view}
use Rattle.krates_questions.specs.FeatureTable.{listed_view, features_of_node}
use Rattle.krates_questions.proofs.feature_table.list_features.Given as goal

-- the features listed so far, then those of the rest, are all that is listed in the end
abbrev pub invariant-loop-feature : goal.invariant-loop-feature
invariant-loop-feature l =
    map listed_view l.listed.items ++ features_of_node l.place.index (map text_view (drop l.feature-index l.features))
    ≡ map listed_view l.fn.listed.items ++ features_of_node l.place.index (map text_view l.features)
