-- Names under which versions changed.
use Rattle.std.specs.BTreeMap.{BTreeMap}
use Rattle.std.specs.Borrow.{Bor}
use Rattle.std.specs.Cmp.Lexicographic.{slice_cmp}
use Rattle.std.specs.Global.{Vec}
use Rattle.std.specs.List.Sorted.{IsStrictlySortedBy}
use Rattle.std.specs.Ordering.{nat_cmp}
use Rattle.std.specs.Prelude.{◌≡◌, ◌↔◌, List, All, Contains, map}
use Rattle.krates_cm.specs.Document.{Text, text_view}
use Rattle.krates_cm.specs.declared.package.Package.{Package}
use Rattle.krates_queries.specs.KrateNodes.{Match}
use Rattle.semver.specs.declared.Version.{Version}
use Rattle.krates_answers.specs.Duplicates.{crates_named}
use Rattle.krates_answers.specs.Grouped.{AreGroups, groups_in}
use Rattle.krates_answers.specs.declared.changed.Changed.{Changed}

-- the names of crates
abbrev pub names_of : List (Match Package) → List Text
names_of crates = map (λ m. text_view m.krate.name) crates

-- the versions of the crates of a name, in their order
abbrev pub versions_named : Text → List (Match Package) → List Version
versions_named name crates = map (λ m. m.krate.version) (crates_named name crates)

-- a name, with versions before and after
pub record Change : Type 0 where
  pub name : Text
  pub from : List Version
  pub to : List Version

-- These are exactly the names that crates of both lists have, ascending, each with its versions in the one and in the other.
pub record AreChanges (removed added : List (Match Package)) (changes : List Change) : Type 0 where
  pub ascending : IsStrictlySortedBy (slice_cmp nat_cmp) (map (λ c. c.name) changes)
  pub exactly : (name : Text) → Contains (map (λ c. c.name) changes) name ↔ (Contains (names_of removed) name × Contains (names_of added) name)
  pub from : All (λ c. c.from ≡ versions_named c.name removed) changes
  pub to : All (λ c. c.to ≡ versions_named c.name added) changes

-- versions that are borrowed
abbrev pub borrowed_versions : Vec (Bor Version) → List Version
borrowed_versions versions = map (λ v. v.now) versions.items

-- a name with its versions, as clauses see it
abbrev pub change_view : Changed → Change
change_view c = record { name = c.name.now; from = borrowed_versions c.from; to = borrowed_versions c.to }

-- ---- by name; cited by a private function alone

-- a crate's version under its name
abbrev pub with_version : Match Package → Text × Version
with_version m = (text_view m.krate.name, m.krate.version)

-- The map has exactly the versions of these crates, in their order, under their names.
pub record HoldsVersions (crates : List (Match Package)) (versions : BTreeMap (Bor Text) (Vec (Bor Version))) : Type 0 where
  pub borrowed : List (Text × Bor Version)
  pub groups : AreGroups borrowed (groups_in versions)
  pub seen : map (λ p. (p.0, p.1.now)) borrowed ≡ map with_version crates
