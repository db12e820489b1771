-- Whether a target text passes is determined.
use Rattle.std.proofs.Common.{◌≡◌, ◌↔◌, ℕ, List, Bool, true, false, IsTrue, refl}
use Rattle.krates_text.specs.Passing.{Asked, TellsPassing}

-- the answer for a text is the only one
pub told_passing : (text : List ℕ) (targets : List Asked) (b : Bool) → TellsPassing text targets b → IsTrue b ↔ TellsPassing text targets true
told_passing text targets true h = (λ t. h, λ p. refl)
told_passing text targets false h = (
  λ t. absurd cc,
  λ p. absurd (
      let none = h.triple (λ tree is. absurd (apart (h.expression tree is) (p.expression tree is))) in
      apart none (p.triple (λ tree is. absurd (apart (h.expression tree is) (p.expression tree is))))),
)
  where
    apart : {b : Bool} → false ≡ b → true ≡ b → ⊥
    apart f t = cc
