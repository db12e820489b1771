-- The members of an object, by name.
use Rattle.std.specs.Prelude.{ℕ, List, [], ◌∷◌}
use Rattle.std.specs.Borrow.{Bor}
use Rattle.std.specs.Cmp.Lexicographic.{slice_cmp}
use Rattle.std.specs.Ordering.{nat_cmp}
use Rattle.std.specs.declared.cmp.Ordering.{Ordering}
use Rattle.serde_json.specs.Data.{Data, Members, no_members, member}

-- the members that entries are, each value seen as its data
abbrev pub entries_data : {A : Type 0} → (A → Data) → List (Bor (List ℕ) × A) → Members
entries_data meaning [] = no_members
entries_data meaning (e ∷ es) = member e.0.now (meaning e.1) (entries_data meaning es)

-- how names are ordered: byte by byte
abbrev pub name_cmp : Bor (List ℕ) → Bor (List ℕ) → Ordering
name_cmp a b = slice_cmp nat_cmp a.now b.now
