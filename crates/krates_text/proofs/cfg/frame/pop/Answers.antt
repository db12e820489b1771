use Rattle.std.proofs.Common.{arith}
use Rattle.krates_text.proofs.CfgFrames.{popped}
use Rattle.krates_text.proofs.cfg.frame.pop.Goals as goal

pub returns : goal.returns
returns c = popped c.args.frames.now.items c.pop.new.self.items c.pop.result c.pop.ensures.items (λ some. c.pop.ensures.variant.1 (omega (arith, c.args.frames.now.ok.0)))
