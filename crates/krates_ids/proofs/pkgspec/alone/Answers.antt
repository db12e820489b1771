use Rattle.std.proofs.Common.{refl, inl}
use Rattle.krates_ids.proofs.CheckedLemmas.{Fragment-split, Fragment-name}
use Rattle.krates_ids.proofs.SpecificationLemmas.{Answers-map}
use Rattle.krates_ids.proofs.pkgspec.alone.Goals as goal

pub returns-in-Some : goal.returns-in-Some
returns-in-Some c = Answers-map _ _ _ _ (Fragment-split _ _ _ _ _ c.in-Some.ensures) c.of_both_sides.ensures

pub returns-in-None : goal.returns-in-None
returns-in-None c = Answers-map _ _ _ _ (Fragment-name _ _ _ c.in-None.ensures (inl refl)) c.with_name.ensures
