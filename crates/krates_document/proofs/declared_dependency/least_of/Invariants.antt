use Rattle.std.proofs.Common.{take}
use Rattle.krates_document.specs.DeclaredPlaces.{IsLeast, IsWantedAmong}
use Rattle.krates_document.specs.NamedPlaces.{places_in}
use Rattle.krates_document.proofs.declared_dependency.least_of.Given as goal

-- the least of the places so far
abbrev pub invariant-loop-there : goal.invariant-loop-there
invariant-loop-there l = IsLeast (IsWantedAmong l.wanted (places_in (take l.there-index l.places))) l.least
