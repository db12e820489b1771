use Rattle.krates_build_answers.proofs.Added.{adds_one}
use Rattle.krates_build_answers.proofs.links.add.Goals as goal

pub returns : goal.returns
returns c = adds_one c.args.links.now.items c.push.new.self.items c.args.link c.in_ok-push.ensures.items
