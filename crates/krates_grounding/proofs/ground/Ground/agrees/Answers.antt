use Rattle.std.proofs.Common.{subst}
use Rattle.krates_grounding.specs.Grounding.{AreDistinct, AreNamed, GroundModel}
use Rattle.krates_grounding.proofs.GroundFacts.{ground_distinct, ground_named}
use Rattle.krates_grounding.proofs.ground.Ground.agrees.Goals as goal

pub returns-clause-named : goal.returns-clause-named
returns-clause-named c = subst AreNamed c.self.view_is (ground_named _ _ c.self.inside.clauses c.self.invariant)

pub returns-clause-distinct : goal.returns-clause-distinct
returns-clause-distinct c =
    subst (λ (g : GroundModel). AreDistinct g.facts) c.self.view_is (ground_distinct c.self.inside.facts.items c.self.inside.numbers c.self.inside.clauses c.self.invariant)
