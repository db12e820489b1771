-- Items under keys of text.
use Rattle.std.specs.BTreeMap.{BTreeMap}
use Rattle.std.specs.Borrow.{Bor}
use Rattle.std.specs.Cmp.Lexicographic.{slice_cmp}
use Rattle.std.specs.Global.{Vec}
use Rattle.std.specs.List.Sorted.{IsStrictlySortedBy}
use Rattle.std.specs.Ordering.{nat_cmp}
use Rattle.std.specs.Prelude.{◌≡◌, ◌↔◌, List, All, Contains, filter, map}
use Rattle.std.specs.Str.{bytes_eq}
use Rattle.krates_cm.specs.Document.{Text}

-- a key with its items
pub record Group (T : Type 0) : Type 0 where
  pub key : Text
  pub items : List T

-- among items with their keys, those with this key, in their order
abbrev pub items_under : {T : Type 0} → Text → List (Text × T) → List T
items_under key items = map (λ p. p.1) (filter (λ p. bytes_eq key p.0) items)

-- these are exactly the keys of the items, ascending, each with its items in their order
pub record AreGroups {T : Type 0} (items : List (Text × T)) (groups : List (Group T)) : Type 0 where
  pub ascending : IsStrictlySortedBy (slice_cmp nat_cmp) (map (λ g. g.key) groups)
  pub exactly : (key : Text) → Contains (map (λ g. g.key) groups) key ↔ Contains (map (λ p. p.0) items) key
  pub each : All (λ g. g.items ≡ items_under g.key items) groups

-- a key and its items, as clauses see them
abbrev pub group_view : {T : Type 0} → Bor Text × Vec T → Group T
group_view e = record { key = e.0.now; items = e.1.items }

-- a group, with another view of its items
abbrev pub seen_group : {T U : Type 0} → (T → U) → Group T → Group U
seen_group view g = record { key = g.key; items = map view g.items }

-- the groups of a map, in the order of its keys
abbrev pub groups_in : {T : Type 0} → BTreeMap (Bor Text) (Vec T) → List (Group T)
groups_in m = map group_view m.entries
