use Rattle.std.proofs.Common.{ap, ◌∙◌}
use Rattle.krates_text.specs.CfgFrames.{stack}
use Rattle.krates_text.proofs.CfgFrames.{stack-push}
use Rattle.krates_text.proofs.cfg.frame.push.Goals as goal

pub returns : goal.returns
returns c = ap stack c.in_ok-push.ensures.items ∙ stack-push c.args.frames.now.items c.args.frame
