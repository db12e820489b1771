-- The crates of a list of facts, as a set.
use Rattle.std.specs.Prelude.{◌↔◌, Contains, IsTrue, List}
use Rattle.std.specs.Borrow.{Bor}
use Rattle.std.specs.BTreeSet.{BTreeSet, contains}
use Rattle.std.specs.declared.cmp.Ordering.{Ordering}
use Rattle.krates_ids.specs.Identity.{Identity, id_cmp}
use Rattle.krates_rules.specs.Facts.{Crate, Fact}
use Rattle.krates_rules.specs.Resolved.{id_of}

-- the order of borrowed ids
abbrev pub lent_cmp : Bor Identity → Bor Identity → Ordering
lent_cmp a b = id_cmp a.now b.now

-- the set has exactly the crates that the facts say are kept
abbrev pub HasCrates : BTreeSet (Bor Identity) → List Fact → Type 0
HasCrates set fs = (k : Bor Identity) → IsTrue (contains lent_cmp set k) ↔ Contains fs (Crate (id_of k.now))
