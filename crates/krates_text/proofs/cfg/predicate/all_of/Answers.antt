use Rattle.krates_text.proofs.CfgTrees.{tree-All}
use Rattle.krates_text.proofs.cfg.predicate.all_of.Goals as goal

pub returns : goal.returns
returns c = tree-All c.args.predicates
