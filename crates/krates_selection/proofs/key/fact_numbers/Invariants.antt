use Rattle.std.proofs.Common.{◌≡◌, length, map}
use Rattle.krates_selection.specs.KeptFacts.{key_view}
use Rattle.krates_selection.proofs.FactPlaces.{AreNumbersBelow, ArePlacesBelow}
use Rattle.krates_selection.proofs.key.fact_numbers.Given as goal

-- the maps have the last places so far, and the facts so far are numbered
abbrev pub invariant-loop-place : goal.invariant-loop-place
invariant-loop-place l = (length l.homes.items ≡ l.count) × ArePlacesBelow (map key_view l.keys) l.place l.homes.items × AreNumbersBelow (map key_view l.keys) l.place l.numbers.items
