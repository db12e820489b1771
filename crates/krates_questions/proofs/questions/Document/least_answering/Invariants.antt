use Rattle.krates_questions.specs.Lookup.{resolved_view}
use Rattle.krates_questions.proofs.LeastReferents.{GoneOver}
use Rattle.krates_questions.proofs.questions.Document.least_answering.Given as goal

-- the least of the places so far
abbrev pub invariant-loop-there : goal.invariant-loop-there
invariant-loop-there l = GoneOver (resolved_view l.self) l.parts l.name l.places l.there-index l.fn.before l.least
