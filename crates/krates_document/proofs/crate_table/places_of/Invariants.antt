use Rattle.krates_document.proofs.NumberedPlaces.{ArePlacesBelow}
use Rattle.krates_document.proofs.crate_table.places_of.Given as goal

-- the table has the places so far, and it is known whether a number occurred again
abbrev pub invariant-loop-place : goal.invariant-loop-place
invariant-loop-place l = ArePlacesBelow l.count l.numbers l.place l.places.items l.doubled
