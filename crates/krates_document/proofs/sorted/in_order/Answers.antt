use Rattle.std.proofs.Common.{sym, subst, Contains}
use Rattle.std.proofs.lemmas.List.Filters.{dedup_is}
use Rattle.std.proofs.lemmas.List.Kept.{Any-dedup, Contains-from_dedup, IsStrictlySortedBy-dedup}
use Rattle.std.proofs.lemmas.List.Sorted.{Contains-permutation, IsPermutation-sym}
use Rattle.std.proofs.lemmas.Map.Keys.{IsDistinct-IsPermutation}
use Rattle.krates_rules.proofs.Distinct.{dedup_distinct}
use Rattle.krates_document.proofs.sorted.in_order.Goals as goal

pub returns-clause-ascending : goal.returns-clause-ascending
returns-clause-ascending g c = rw (dedup_is _ _ _ c.dedup.ensures.filtered) (IsStrictlySortedBy-dedup g.met.T.Ord.total g.met.T.Ord.matches_eq _ c.in_ok-sort.ensures.sorted)

pub returns-clause-from : goal.returns-clause-from
returns-clause-from g c x h =
    let is = dedup_is _ _ _ c.dedup.ensures.filtered in
    Contains-permutation _ _ x (IsPermutation-sym _ _ c.sort.ensures.permutation) (Contains-from_dedup _ _ x (rw is at h))

pub returns-clause-kept : goal.returns-clause-kept
returns-clause-kept g c x h =
    let is = dedup_is _ _ _ c.dedup.ensures.filtered in
    let a = Any-dedup g.met.T.Eq.laws c.sort.new.self.items x (Contains-permutation _ _ x c.sort.ensures.permutation h) in
    (a.1, subst (λ zs. Contains zs a.1) (sym is) (a.0, a.2, a.3), a.4)

pub returns-clause-whole : goal.returns-clause-whole
returns-clause-whole g c distinct =
    let symm = g.met.T.Eq.laws.symm in
    let there = IsDistinct-IsPermutation _ symm _ _ c.sort.ensures.permutation distinct in
    rw (dedup_is _ _ _ c.dedup.ensures.filtered, dedup_distinct _ symm _ there) c.sort.ensures.permutation
