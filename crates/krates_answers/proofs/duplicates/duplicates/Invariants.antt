use Rattle.std.proofs.Common.{◌≡◌, filter, map}
use Rattle.krates_answers.specs.Duplicates.{duplicate_view}
use Rattle.krates_answers.proofs.DuplicateLemmas.{has_several}
use Rattle.krates_answers.proofs.SeveralLemmas.{named_entry}
use Rattle.krates_answers.proofs.duplicates.duplicates.Given as goal

-- the names so far that have several crates
abbrev pub invariant-loop-name : goal.invariant-loop-name
invariant-loop-name l = map duplicate_view l.duplicates.items ≡ filter has_several (map named_entry l.yielded)
