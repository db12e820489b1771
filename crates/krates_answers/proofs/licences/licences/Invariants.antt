use Rattle.std.proofs.Common.{◌≡◌, map}
use Rattle.krates_answers.specs.Licences.{licence_view}
use Rattle.krates_answers.proofs.SeveralLemmas.{named_entry}
use Rattle.krates_answers.proofs.licences.licences.Given as goal

-- the licences so far
abbrev pub invariant-loop-text : goal.invariant-loop-text
invariant-loop-text l = map licence_view l.licences.items ≡ map named_entry l.yielded
