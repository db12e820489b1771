use Rattle.std.proofs.Common.{List, ℕ, Contains, sym, subst}
use Rattle.std.proofs.lemmas.List.Filters.{dedup_is}
use Rattle.std.proofs.lemmas.List.Kept.{Contains-dedup_nat, Contains-from_dedup, IsStrictlySortedBy-dedup}
use Rattle.std.proofs.lemmas.List.Sorted.{Contains-permutation, IsPermutation-sym}
use Rattle.std.proofs.lemmas.Map.Keys.{IsStrictlyIncreasing-dedup}
use Rattle.krates_answers.proofs.direct_links.each_once.Goals as goal

pub returns-clause-ascending : goal.returns-clause-ascending
returns-clause-ascending c = rw (dedup_is _ _ _ c.dedup.ensures.filtered) (IsStrictlyIncreasing-dedup _ c.in_ok-sort.ensures.sorted)

pub returns-clause-same : goal.returns-clause-same
returns-clause-same c = λ n.
    let is = dedup_is _ _ _ c.dedup.ensures.filtered in (
      λ h. Contains-permutation _ _ n (IsPermutation-sym _ _ c.sort.ensures.permutation) (Contains-from_dedup _ _ n (rw is at h)),
      λ h. subst (λ (ns : List ℕ). Contains ns n) (sym is) (Contains-dedup_nat _ n (Contains-permutation _ _ n c.sort.ensures.permutation h)),
    )
