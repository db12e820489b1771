-- The values of the kit's grammar that `serde_json` reads, and the data that they are.
use Rattle.std.specs.Prelude.{◌≤◌, ℕ, List, IsTrue, is_some, unwrap_or}
use Rattle.std.specs.Coded.{×_prop, Unit-prop}
use Rattle.std.proofs.Props.{props}
use Rattle.json.specs.Json as json
use Rattle.json.specs.Json.{Json, Items, Members}
use Rattle.json.specs.Tree.{depth, HasNumbers, ItemsHaveNumbers, MembersHaveNumbers}
use Rattle.serde_json.specs.Data.{Data, null, no_members}
use Rattle.serde_json.specs.Read.{number_of, of_json, of_items, of_members, max_depth}

-- the text of a number that is in range
abbrev pub IsNumberInRange : List ℕ → Type 0
IsNumberInRange s = IsTrue (is_some (number_of s))

-- each number of the value is in range
abbrev pub IsInRange : Json → Type 0
IsInRange j = IsTrue (is_some (of_json j))

abbrev pub AreItemsInRange : Items → Type 0
AreItemsInRange js = IsTrue (is_some (of_items js))

abbrev pub AreMembersInRange : Members → Type 0
AreMembersInRange ms = IsTrue (is_some (of_members ms no_members))

-- The value nests as deep as is read at most, and each of its numbers is one and is in range.
abbrev pub IsReadable : Json → Type 0
IsReadable j = HasNumbers j × ((depth j ≤ max_depth) × IsInRange j)

-- what a readable value is
abbrev pub data_in : Json → Data
data_in j = unwrap_or (of_json j) null

-- ---- each of these facts can hold in one way only

mutual
  HasNumbers-prop : (j : Json) → IsProp (HasNumbers j)
  HasNumbers-prop json.null = Unit-prop
  HasNumbers-prop (json.boolean b) = Unit-prop
  HasNumbers-prop (json.number s) = hlevel props
  HasNumbers-prop (json.string s) = Unit-prop
  HasNumbers-prop (json.array js) = ItemsHaveNumbers-prop js
  HasNumbers-prop (json.object ms) = MembersHaveNumbers-prop ms

  ItemsHaveNumbers-prop : (js : Items) → IsProp (ItemsHaveNumbers js)
  ItemsHaveNumbers-prop json.no_items = Unit-prop
  ItemsHaveNumbers-prop (json.item j js) = ×_prop (HasNumbers-prop j) (ItemsHaveNumbers-prop js)

  MembersHaveNumbers-prop : (ms : Members) → IsProp (MembersHaveNumbers ms)
  MembersHaveNumbers-prop json.no_members = Unit-prop
  MembersHaveNumbers-prop (json.member k j ms) = ×_prop (HasNumbers-prop j) (MembersHaveNumbers-prop ms)

pub IsReadable-prop : (j : Json) → IsProp (IsReadable j)
IsReadable-prop j =
    let shallow : IsProp (depth j ≤ max_depth) = hlevel props in
    let in_range : IsProp (IsInRange j) = hlevel props in
    ×_prop (HasNumbers-prop j) (×_prop shallow in_range)
