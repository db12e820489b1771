use Rattle.std.proofs.Common.{◌≡◌, map, take}
use Rattle.std.specs.List.{filter_map}
use Rattle.krates_built.specs.BuildLists.{feature_view}
use Rattle.krates_built.specs.FeaturesOf.{name_at}
use Rattle.krates_built.proofs.features.names_of.Given as goal

-- the names are those of the features so far
abbrev pub invariant-loop-feature : goal.invariant-loop-feature
invariant-loop-feature l = map (λ n. n.now) l.names.items ≡ filter_map (name_at l.krate l.side) (map feature_view (take l.feature-index l.features))
