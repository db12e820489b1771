use Rattle.std.proofs.Common.{◌∙◌, rules}
use Rattle.std.specs.Vec.{vec_len}
use Rattle.krates_grounding.proofs.GroundFacts.{ground_back, ground_more, numbered_more}
use Rattle.krates_grounding.proofs.ground.Ground.number_of.Goals as goal

pub invariant_of-self-in-Ok : goal.invariant_of-self-in-Ok
invariant_of-self-in-Ok c =
    let own = c.self.inside in
    ground_more own.facts.items _ _ c.len-number.result own.numbers _ own.clauses _ c.in_ok-push.ensures.items (c.len-number.ensures ∙ own.facts.ok.0) c.self.invariant (search rules) c.in-Ok.ensures.updates.0 c.grow.ensures

pub invariant_of-self-in-Err : goal.invariant_of-self-in-Err
invariant_of-self-in-Err c =
    let own = c.self.inside in
    ground_back own.facts.items _ _ _ (vec_len c.push.new.self) own.numbers _ own.clauses c.in_ok-push.ensures.items c.push.new.self.ok.0 c.pop.ensures.rest c.in-Err.ensures.err c.self.invariant

pub returns-in-Ok : goal.returns-in-Ok
returns-in-Ok c =
    let own = c.self.inside in
    rw (← c.self.view_is) (numbered_more own.facts.items _ _ c.len-number.result _ own.numbers own.clauses _ c.in_ok-push.ensures.items (c.len-number.ensures ∙ own.facts.ok.0) c.new-in-Ok.ensures c.self.invariant c.grow.ensures)
