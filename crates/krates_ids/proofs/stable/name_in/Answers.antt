use Rattle.std.proofs.Common.{refl}
use Rattle.krates_ids.proofs.StableLemmas.{NameInLeft-no_slash, StandsInLeft-git, StandsInLeft-git_plain, StandsInLeft-plain}
use Rattle.krates_ids.proofs.stable.name_in.Goals as goal
use Rattle.krates_ids.proofs.stable.name_in.Goals.{then-is_git+in_default-cut_last, else-is_git}

pub returns-in_default : goal.returns-in_default
returns-in_default c = NameInLeft-no_slash _ c.in_default.ensures

pub returns-in-Some-cut_last : goal.returns-in-Some-cut_last
returns-in-Some-cut_last c =
    StandsInLeft-git _ _ _ _ _ _ c.in-Some.ensures (rw (← c.is_git.ensures) c.if-is_git.true) c.in-Some-cut_last.ensures refl

pub returns : goal.returns
returns c =
    elim c.if-is_git.branch [
      | then-is_git+in_default-cut_last w ↦ StandsInLeft-git_plain _ _ _ _ c.in-Some.ensures (rw (← c.is_git.ensures) w.if-is_git.true) w.in_default-cut_last.ensures refl
      | else-is_git w ↦ StandsInLeft-plain _ _ _ _ c.in-Some.ensures (rw (← c.is_git.ensures) w.if-is_git.false) refl
    ]
