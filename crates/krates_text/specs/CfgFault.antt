-- Which fault a text has that isn't an expression.
use Rattle.std.specs.Prelude.{ℕ, List}
use Rattle.krates_text.specs.declared.cfg.CfgError.{CfgError}
use Rattle.krates_text.specs.declared.cfg.CfgError.TheVariants as error
use Rattle.krates_text.specs.CfgGrammar.{IsNoExpression, IsTooDeep}

abbrev pub IsFault : List ℕ → CfgError → Type 0
IsFault text error.Syntax = IsNoExpression text × (IsTooDeep text → ⊥)
IsFault text error.TooDeep = IsNoExpression text × IsTooDeep text
IsFault text error.Memory = Unit {0}
