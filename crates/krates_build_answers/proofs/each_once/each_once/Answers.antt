use Rattle.std.proofs.Common.{Contains, sym, subst, ◌∙◌}
use Rattle.std.proofs.lemmas.List.Filters.{dedup_is}
use Rattle.std.proofs.lemmas.List.Kept.{Contains-dedup, Contains-from_dedup, IsStrictlySortedBy-dedup}
use Rattle.std.proofs.lemmas.List.Sorted.{Contains-permutation, IsPermutation-sym}
use Rattle.std.proofs.lemmas.Map.Views.{tells_apart}
use Rattle.krates_build_answers.proofs.each_once.each_once.Goals as goal

pub returns-clause-ascending : goal.returns-clause-ascending
returns-clause-ascending g c = rw (dedup_is _ _ _ c.dedup.ensures.filtered) (IsStrictlySortedBy-dedup g.met.T.Ord.total g.met.T.Ord.matches_eq _ c.in_ok-sort.ensures.sorted)

pub returns-clause-kept : goal.returns-clause-kept
returns-clause-kept g c apart x =
    let is = dedup_is _ _ _ c.dedup.ensures.filtered in (
      λ h. Contains-permutation _ _ x (IsPermutation-sym _ _ c.sort.ensures.permutation) (Contains-from_dedup _ _ x (rw is at h)),
      λ h. subst (λ zs. Contains zs x) (sym is) (Contains-dedup g.met.T.Eq.laws
          (λ y z e. tells_apart apart y z (sym (g.met.T.Ord.matches_eq y z) ∙ e)) c.sort.new.self.items x
          (Contains-permutation _ _ x c.sort.ensures.permutation h)),
    )
