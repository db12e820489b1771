use Rattle.std.proofs.Common.{arith}
use Rattle.krates_text.proofs.CfgFrames.{length-stack}
use Rattle.krates_text.proofs.cfg.frame.depth.Goals as goal

pub returns : goal.returns
returns c = omega (arith, length-stack c.args.frames.now.items, c.args.frames.now.ok.0)
