use Rattle.krates_document.proofs.NamedPlaces.{StandBelow}
use Rattle.krates_document.proofs.named_places.named_places.Given as goal

-- the items so far are listed under their names
abbrev pub invariant-loop-place : goal.invariant-loop-place
invariant-loop-place g l = StandBelow g.T.HasName.name g.T.HasName.target l.items l.places.items l.place
