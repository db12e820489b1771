-- What a binary search goes by: in a list that is sorted, what is sought compares with later elements no lower than with earlier ones.
use Rattle.std.proofs.Common.{◌≡◌, ◌≤◌, ℕ, Ordering, Less, Equal, Greater, sym, ap, ◌∙◌, subst, arith}
use Rattle.std.specs.Cmp.{IsTotalOrder}
use Rattle.std.specs.Ordering.{ordering_index, ordering_reverse}

module _ {K : Type 0} {R : K → K → Ordering} (o : IsTotalOrder R) where
  -- an element less than one that compares so with `q` compares no higher
  pub step : (x y q : K) (r s : Ordering) → R x q ≡ r → R y q ≡ s → R x y ≡ Less → ordering_index r ≤ ordering_index s
  step x y q Less Less a b h = omega arith
  step x y q Less Equal a b h = omega arith
  step x y q Less Greater a b h = omega arith
  step x y q Equal Less a b h =
      let other : R x y ≡ Greater = o.congr x q y a ∙ o.antisymm q y ∙ ap ordering_reverse b in
      absurd (cc (h, other))
  step x y q Equal Equal a b h = omega arith
  step x y q Equal Greater a b h = omega arith
  step x y q Greater s a b h =
      let below : R q y ≡ Less = o.trans q x y (o.antisymm q x ∙ ap ordering_reverse a) h in
      let above : Greater ≡ s = sym (o.antisymm y q ∙ ap ordering_reverse below) ∙ b in
      subst (λ t. 2 ≤ ordering_index t) above (omega arith)
