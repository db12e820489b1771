use Rattle.krates_text.proofs.CfgParsing.{one_tree, not_both}
use Rattle.krates_text.proofs.laws.one_expression.Goals as goal

pub returns-clause-once : goal.returns-clause-once
returns-clause-once c = one_tree

pub returns-clause-apart : goal.returns-clause-apart
returns-clause-apart c = not_both
