use Rattle.krates_selection.specs.KeptFacts.{AreNoPlaces}
use Rattle.krates_selection.proofs.key.no_places.Given as goal

-- none of the maps so far has a place
abbrev pub invariant-loop : goal.invariant-loop
invariant-loop l = AreNoPlaces l.counter l.homes.items
