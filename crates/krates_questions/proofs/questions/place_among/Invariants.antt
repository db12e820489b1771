use Rattle.krates_rules.proofs.Seen.{SeenBelow}
use Rattle.krates_document.specs.declared.named_places.NamedPlace.{NamedPlace}
use Rattle.krates_rules.specs.Resolved.{StandsAt, id_of}
use Rattle.krates_questions.proofs.questions.place_among.Given as goal

-- the id is at none of the places so far
abbrev pub invariant-loop-there : goal.invariant-loop-there
invariant-loop-there l = SeenBelow (λ (x : NamedPlace). StandsAt l.ids (id_of l.id) x.place → ⊥) l.places l.there-index
