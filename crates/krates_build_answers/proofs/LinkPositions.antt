-- The positions of links.
use Rattle.std.proofs.Common.{◌≡◌, ◌↔◌, ℕ, List, [], Contains, Some, slice_get, subst, inl, inr}
use Rattle.std.proofs.lemmas.Option.{get_or_from_slice_get, slice_get_within}
use Rattle.std.specs.List.Sorted.{IsStrictlySortedBy}
use Rattle.krates_rules.proofs.Members.{member_of}
use Rattle.krates_build_answers.specs.Adding.{Adds, IsOfSome}
use Rattle.krates_build_answers.specs.Orders.{built_cmp}
use Rattle.krates_build_answers.specs.Positions.{ArePositionsOf, StandsAt}
use Rattle.krates_build_answers.specs.contracts.built_crates.BuiltCrateOrd.TheImpl.Laws.{total-law}
use Rattle.krates_build_answers.specs.declared.built_crates.BuiltCrate.{BuiltCrate}
use Rattle.krates_build_answers.specs.declared.links.BuildLink.{BuildLink}
use Rattle.krates_build_answers.proofs.PlaceOrders.{built_apart}
use Rattle.krates_build_answers.proofs.Searched.{one_place}

-- the link stands at these positions, and at no others
pub stands_once : (built : List BuiltCrate) (l : BuildLink) (a b : ℕ) → IsStrictlySortedBy built_cmp built → slice_get built a ≡ Some l.from → slice_get built b ≡ Some l.to
    → (p : ℕ × ℕ) → ((a, b) ≡ p) ↔ StandsAt built l p
stands_once built l a b sorted from to p = (
  λ e. record {
    from = subst (λ (q : ℕ × ℕ). slice_get built q.0 ≡ Some l.from) e from;
    to = subst (λ (q : ℕ × ℕ). slice_get built q.1 ≡ Some l.to) e to;
  },
  λ h. (
      let first = one_place total-law built_apart built a p.0 l.from sorted from h.from in
      let second = one_place total-law built_apart built b p.1 l.to sorted to h.to in
      λ z. (first z, second z)),
)

-- what isn't in the list stands nowhere
pub nowhere : (built : List BuiltCrate) (x : BuiltCrate) (n : ℕ) → (Contains built x → ⊥) → slice_get built n ≡ Some x → ⊥
nowhere built x n none at = none (n, slice_get_within built n x at, get_or_from_slice_get built n x x at)

-- those of all links
pub all_positions : (built : List BuiltCrate) (links : List BuildLink) (pairs : List (ℕ × ℕ)) → Adds (IsOfSome (StandsAt built) links) [] pairs → ArePositionsOf built links pairs
all_positions built links pairs h p = (
  λ c. elim ((h p).0 c) [ inl none ↦ absurd (member_of [] p none) | inr w ↦ w ],
  λ w. (h p).1 (inr w),
)
