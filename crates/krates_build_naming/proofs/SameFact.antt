-- Facts that compare as equal are the same.
use Rattle.std.proofs.Common.{◌≡◌, ◌↔◌, Bool, IsTrue, Ordering, sym, ◌∙◌}
use Rattle.std.specs.Ordering.{is_eq}
use Rattle.krates_rules.proofs.PutElements.{equal_is, is_equal}
use Rattle.krates_build_facts.specs.FactModels.{fact_view}
use Rattle.krates_build_facts.specs.FactOrder.{fact_cmp}
use Rattle.krates_build_facts.specs.declared.facts.BuildFact.{BuildFact}
use Rattle.krates_build_facts.proofs.FactOrder.{fact_tells}

pub same_told : (o : Ordering) (b : Bool) (x y : BuildFact) → o ≡ fact_cmp x y → b ≡ is_eq o → IsTrue b ↔ (fact_view x ≡ fact_view y)
same_told o b x y order is = (
  λ t. (fact_tells x y).0 (sym order ∙ is_equal o (sym is ∙ t)),
  λ e. is ∙ equal_is o (order ∙ (fact_tells x y).1 e),
)
