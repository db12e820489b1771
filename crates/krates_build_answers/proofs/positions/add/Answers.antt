use Rattle.krates_build_answers.proofs.Added.{adds_one}
use Rattle.krates_build_answers.proofs.positions.add.Goals as goal

pub returns : goal.returns
returns c = adds_one c.args.pairs.now.items c.push.new.self.items c.args.pair c.in_ok-push.ensures.items
