-- A text that is an expression passes as that expression does.
use Rattle.std.proofs.Common.{◌≡◌, ℕ, Bool, List, ◌∙◌, ap}
use Rattle.krates_text.specs.CfgGrammar.{Tree, IsExpression}
use Rattle.krates_text.specs.Passing.{Asked, expression_passes, TellsPassing}
use Rattle.krates_text.proofs.CfgParsing.{one_tree}

pub told : (text : List ℕ) (p : Tree) (targets : List Asked) (passes : Bool) → IsExpression text p → passes ≡ expression_passes p targets → TellsPassing text targets passes
told text p targets passes is e = record {
  expression = λ q x. e ∙ ap (λ r. expression_passes r targets) (one_tree text p q is x);
  triple = λ none. absurd (none p is);
}
