use Rattle.std.proofs.Common.{map, take}
use Rattle.krates_queries.specs.KrateNodes.{match_view}
use Rattle.krates_answers.specs.Meaning.{IsMeantBy, kept}
use Rattle.krates_answers.specs.Those.{AreThose}
use Rattle.krates_answers.proofs.meaning.Packages.kept_by.Given as goal

-- exactly those of the crates so far that are meant
abbrev pub invariant-loop-found : goal.invariant-loop-found
invariant-loop-found l = AreThose (λ m. IsMeantBy l.reading (kept m)) (map match_view (take l.found-index l.found-items)) (map match_view l.meant.items)
