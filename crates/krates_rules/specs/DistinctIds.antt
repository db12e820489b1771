-- Lists of ids in which none occurs twice.
use Rattle.std.specs.Prelude.{◌≡◌, List}
use Rattle.krates_ids.specs.Identity.{Identity}
use Rattle.krates_rules.specs.Admission.{HoldsTwice}
use Rattle.krates_rules.specs.Facts.{Id}
use Rattle.krates_rules.specs.Resolved.{id_of}

-- the id is at two places of a list of ids
abbrev pub IsDoubledAmong : List Identity → Id → Type 0
IsDoubledAmong ids id = HoldsTwice (λ i. id_of i ≡ id) ids

-- no id is at two places of the list
abbrev pub AreDistinct : List Identity → Type 0
AreDistinct ids = (id : Id) → IsDoubledAmong ids id → ⊥
