use Rattle.krates_grounding.proofs.GroundFacts.{ground_pushed}
use Rattle.krates_grounding.proofs.WrittenRules.{may_write, one_written}
use Rattle.krates_grounding.proofs.ground.Ground.write.Goals as goal

pub push-requires : goal.push-requires
push-requires c =
    let w = may_write _ _ _ _ _ _ _ _ _ c.self.inside.clauses.size c.in_ok-numbers.ensures c.in_ok-number.ensures c.self.view_is c.self.invariant.size in
    record { premises = w.0; fact = w.1 }

pub invariant_of-self-2 : goal.invariant_of-self-2
invariant_of-self-2 c =
    ground_pushed _ _ c.self.inside.clauses _ _ _ c.self.invariant
    (may_write _ _ _ _ _ _ _ _ _ c.self.inside.clauses.size c.in_ok-numbers.ensures c.in_ok-number.ensures c.self.view_is c.self.invariant.size)
    c.in_ok-push.ensures.added

pub returns : goal.returns
returns c = one_written _ _ _ _ _ c.self.inside.clauses _ _ _ _ c.in_ok-numbers.ensures c.in_ok-number.ensures c.self.view_is c.in_ok-push.ensures.added
