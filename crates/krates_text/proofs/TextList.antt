-- Lists of texts: a text is found exactly where it is one of them.
use Rattle.std.proofs.Common.{◌≡◌, ◌↔◌, ℕ, Bool, true, List, Contains, IsTrue, sym, ◌∙◌}
use Rattle.std.proofs.lemmas.Map.Views.{Contains-from_any, list_any-from_Contains}
use Rattle.std.proofs.lemmas.Slice.Eq.{bytes_eq-Decides}
use Rattle.std.proofs.lemmas.Cmp.{nat_list_eq_equiv}
use Rattle.krates_text.specs.Texts.{has_text}

pub contained : (texts : List (List ℕ)) (text : List ℕ) (b : Bool) → b ≡ has_text texts text → IsTrue b ↔ Contains texts text
contained texts text b is = (
  λ found. Contains-from_any (λ x y same. (bytes_eq-Decides x y).0 same) text texts (sym is ∙ found),
  λ there. is ∙ list_any-from_Contains nat_list_eq_equiv text texts there,
)
