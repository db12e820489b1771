use Rattle.std.proofs.Common.{map, take}
use Rattle.krates_answers.specs.Meaning.{IsMeantBy, other}
use Rattle.krates_answers.specs.Those.{AreThose}
use Rattle.krates_answers.proofs.meaning.Packages.others_by.Given as goal

-- exactly those of the packages so far that are meant
abbrev pub invariant-loop-pkg : goal.invariant-loop-pkg
invariant-loop-pkg l = AreThose (λ pkg. IsMeantBy l.reading (other pkg)) (map (λ pkg. pkg.now) (take l.pkg-index l.pkg-items)) (map (λ pkg. pkg.now) l.meant.items)
