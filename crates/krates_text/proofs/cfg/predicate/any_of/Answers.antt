use Rattle.krates_text.proofs.CfgTrees.{tree-Any}
use Rattle.krates_text.proofs.cfg.predicate.any_of.Goals as goal

pub returns : goal.returns
returns c = tree-Any c.args.predicates
