use Rattle.krates_build_answers.proofs.LinkPositions.{stands_once}
use Rattle.krates_build_answers.proofs.positions.positions_of.Goals as goal

pub returns : goal.returns
returns c = stands_once c.args.built.now c.args.link.now c.in_ok-from.from c.in_ok-to.to c.agrees.ensures c.in_ok-from.ensures c.in_ok-to.ensures
