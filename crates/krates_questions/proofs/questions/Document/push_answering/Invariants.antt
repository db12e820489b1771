use Rattle.krates_questions.specs.Lookup.{resolved_view}
use Rattle.krates_questions.proofs.AllReferents.{HasGone}
use Rattle.krates_questions.proofs.questions.Document.push_answering.Given as goal

-- of the places so far, those that answer have been added
abbrev pub invariant-loop-there : goal.invariant-loop-there
invariant-loop-there l = HasGone (resolved_view l.self) l.parts l.name l.places l.there-index l.fn.referents.items l.referents.items
