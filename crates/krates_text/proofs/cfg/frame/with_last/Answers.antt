use Rattle.std.proofs.Common.{ap, ◌∙◌}
use Rattle.krates_text.specs.CfgView.{trees_of}
use Rattle.krates_text.proofs.CfgFrames.{trees-push}
use Rattle.krates_text.proofs.cfg.frame.with_last.Goals as goal

pub returns : goal.returns
returns c = ap trees_of c.in_ok-push.ensures.items ∙ trees-push c.args.predicates.items c.args.last
