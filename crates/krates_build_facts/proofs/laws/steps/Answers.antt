use Rattle.krates_build_facts.proofs.SteppedFacts.{steps_are_rules, steps_are_sound}
use Rattle.krates_build_facts.proofs.laws.steps.Goals as goal

pub returns-clause-sound : goal.returns-clause-sound
returns-clause-sound c = steps_are_sound

pub returns-clause-rules : goal.returns-clause-rules
returns-clause-rules c = steps_are_rules
