use Rattle.krates_build_checkers.proofs.GivenSets.{more_facts}
use Rattle.krates_build_checkers.proofs.given.add.Goals as goal

pub returns : goal.returns
returns c facts h = more_facts c.args.given.now c.insert.new.self facts c.args.fact c.in_ok-insert.ensures.updates.0 h
