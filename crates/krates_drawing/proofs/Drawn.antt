-- The kept crates of an outline.
use Rattle.krates_rules.specs.Facts.{Id}
use Rattle.krates_drawing.specs.Paths.{IsDrawn}
use Rattle.krates_drawing.specs.Outline.{Outline}
use Rattle.krates_rules.proofs.Members.{member_of, contains_of}
use Rattle.krates_drawing.proofs.NodeNumbers.{HasCrate}

pub drawn_in : (t : Outline) (p : Id) → HasCrate t p → IsDrawn t p
drawn_in t p h = record { krate = h.krate; among = contains_of t.krates h.krate h.member; id = h.id }

pub has_drawn : (t : Outline) (p : Id) → IsDrawn t p → HasCrate t p
has_drawn t p h = record { krate = h.krate; member = member_of t.krates h.krate h.among; id = h.id }
