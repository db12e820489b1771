use Rattle.krates_build_verdict.proofs.BuildTruth.{compiled_is_among, follows_is_derivable, script_is_among}
use Rattle.krates_build_verdict.proofs.laws.verdicts_are_true.Goals as goal

pub returns-clause-follows : goal.returns-clause-follows
returns-clause-follows c = follows_is_derivable c.meaning.ensures.sound

pub returns-clause-compiled : goal.returns-clause-compiled
returns-clause-compiled c = compiled_is_among c.meaning.ensures.complete

pub returns-clause-scripts : goal.returns-clause-scripts
returns-clause-scripts c = script_is_among c.meaning.ensures.complete
