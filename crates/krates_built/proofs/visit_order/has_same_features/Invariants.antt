use Rattle.std.proofs.Common.{◌≡◌}
use Rattle.krates_rules.proofs.Seen.{SeenBelow}
use Rattle.krates_built.specs.OrderAt.{IsFeatureOfBoth}
use Rattle.krates_built.specs.declared.places.FeaturePlace.{FeaturePlace}
use Rattle.krates_built.proofs.visit_order.has_same_features.Given as goal

-- each of the crate so far is enabled on both sides
abbrev pub invariant-loop-feature : goal.invariant-loop-feature
invariant-loop-feature l = SeenBelow (λ (x : FeaturePlace). x.krate ≡ l.krate → IsFeatureOfBoth l.derived l.krate x.name.now) l.features l.feature-index
