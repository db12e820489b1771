use Rattle.std.proofs.Common.{◌∙◌}
use Rattle.krates_ids.proofs.CheckedLemmas.{Gives-cargo}
use Rattle.krates_ids.proofs.SpecificationLemmas.{Answers-map}
use Rattle.krates_ids.proofs.pkgspec.read.Goals as goal

pub returns : goal.returns
returns c =
    Answers-map _ _ _ _
    (Gives-cargo _ _ (c.as_str.ensures.value ∙ c.in_ok-text.ensures.ok) (rw c.if-not-has.false at c.has.ensures) (rw c.if-has_scheme.false at c.has_scheme.ensures))
    c.located-2.ensures
