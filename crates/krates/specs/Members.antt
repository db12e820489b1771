-- The numbers of crates with the wanted ids.
use Rattle.std.specs.Prelude.{ℕ, ◌↔◌, List, Contains}
use Rattle.krates_ids.specs.Identity.{Identity}
use Rattle.krates_rules.specs.Resolved.{id_of, StandsAt}

-- the crate with this number has one of the wanted ids
pub record IsNumberOf (ids wanted : List Identity) (n : ℕ) : Type 0 where
  pub id : Identity
  pub among : Contains wanted id
  pub stands : StandsAt ids (id_of id) n

-- these are the numbers of exactly the crates that have one of the wanted ids
abbrev pub AreNumbersOf : List Identity → List Identity → List ℕ → Type 0
AreNumbersOf ids wanted numbers = (n : ℕ) → Contains numbers n ↔ IsNumberOf ids wanted n
