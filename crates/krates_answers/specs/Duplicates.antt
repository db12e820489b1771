-- The names that several kept crates have.
use Rattle.std.specs.Cmp.Lexicographic.{slice_cmp}
use Rattle.std.specs.List.Sorted.{IsStrictlySortedBy}
use Rattle.std.specs.Ordering.{nat_cmp}
use Rattle.std.specs.Prelude.{◌≡◌, ◌↔◌, ◌≤◌, List, All, Contains, filter, length, map}
use Rattle.krates_cm.specs.Document.{Text, text_view}
use Rattle.krates_cm.specs.declared.package.Package.{Package}
use Rattle.krates_queries.specs.KrateNodes.{Match, match_view, is_named}
use Rattle.krates_answers.specs.Grouped.{Group}
use Rattle.krates_answers.specs.declared.duplicates.Duplicate.{Duplicate}

-- the crates of a name, in their order
abbrev pub crates_named : Text → List (Match Package) → List (Match Package)
crates_named name crates = filter (is_named (λ (pkg : Package). text_view pkg.name) name) crates

-- these are exactly the names that two or more of the kept crates have, ascending, each with its crates
pub record AreDuplicates (kept : List (Match Package)) (found : List (Group (Match Package))) : Type 0 where
  pub ascending : IsStrictlySortedBy (slice_cmp nat_cmp) (map (λ g. g.key) found)
  pub exactly : (name : Text) → Contains (map (λ g. g.key) found) name ↔ (2 ≤ length (crates_named name kept))
  pub crates : All (λ g. g.items ≡ crates_named g.key kept) found

-- a name with its crates, as clauses see it
abbrev pub duplicate_view : Duplicate → Group (Match Package)
duplicate_view d = record { key = d.name.now; items = map match_view d.krates.items }
