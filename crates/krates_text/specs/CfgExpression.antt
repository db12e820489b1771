-- What an expression shows.
use Rattle.krates_text.specs.declared.cfg.expression.Expression.{Expression}
use Rattle.krates_text.specs.CfgGrammar.{Tree}
use Rattle.krates_text.specs.CfgView.{tree_of}

abbrev pub tree : Expression → Tree
tree e = tree_of e.predicate
