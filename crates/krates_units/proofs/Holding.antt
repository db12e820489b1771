-- Lemmas of where a target text holds.
use Rattle.std.proofs.Common.{◌≡◌, ◌∙◌, ◌↔◌, Bool, IsTrue, bytes_eq, sym, ap}
use Rattle.std.proofs.lemmas.Slice.Eq.{bytes_eq-Decides}
use Rattle.krates_cm.specs.Document.{Text}
use Rattle.krates_text.specs.CfgGrammar.{Tree, IsExpression, IsNoExpression}
use Rattle.krates_text.specs.CfgHolding.{value_among}
use Rattle.krates_text.proofs.CfgParsing.{one_tree}
use Rattle.krates_units.specs.Machines.{MachineModel, HoldsAt}

-- a text that is an expression holds where that is true
pub expression_told : (text : Text) (m : MachineModel) (p : Tree) (b : Bool) → IsExpression text p → b ≡ value_among m.words m.pairs p → IsTrue b ↔ HoldsAt text m
expression_told text m p b is e = (
  λ t. record {
    expression = λ q x. ap (value_among m.words m.pairs) (one_tree text q p x is) ∙ sym e ∙ t;
    triple = λ none. absurd (none p is);
  },
  λ h. e ∙ h.expression p is,
)

-- any other text holds where it is the triple
pub triple_told : (text : Text) (m : MachineModel) (b : Bool) → IsNoExpression text → b ≡ bytes_eq text m.triple → IsTrue b ↔ HoldsAt text m
triple_told text m b none e = (
  λ t. record {
    expression = λ p x. absurd (none p x);
    triple = λ _. (bytes_eq-Decides text m.triple).0 (sym e ∙ t);
  },
  λ h. e ∙ (bytes_eq-Decides text m.triple).1 (h.triple none),
)
