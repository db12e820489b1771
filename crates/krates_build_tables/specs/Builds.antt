-- A document and a build, and the links of a crate.
use Rattle.std.specs.Prelude.{◌≡◌, ◌↔◌, ℕ, Bool, List, Some, IsTrue, Contains, map, slice_get}
use Rattle.std.specs.List.{AllZip}
use Rattle.krates_cm.specs.Document.{PackageModel}
use Rattle.krates_questions.specs.Lookup.{resolved_view}
use Rattle.krates_rules.specs.Facts.{Id}
use Rattle.krates_rules.specs.Resolved.{Resolved, HasPackage, id_of}
use Rattle.krates_units.specs.BuildSetting.{BuildSettingModel, build_setting_view, machines}
use Rattle.krates_units.specs.Machines.{MachineModel}
use Rattle.krates_units.specs.Requests.{IsBuildRoot}
use Rattle.krates_build_tables.specs.Judgements.{lent_machines}
use Rattle.krates_build_tables.specs.Pairs.{pair_view}
use Rattle.krates_build_tables.specs.TablesOf.{LinkSays}
use Rattle.krates_build_tables.specs.declared.links.Build.{Build}
use Rattle.krates_build_tables.specs.declared.pairs.Pair.{Pair}
use Rattle.krates_build_tables.specs.declared.tables.Link.{Link}

-- ---- a document and a build

-- the document
abbrev pub resolved_in : Build → Resolved
resolved_in b = resolved_view b.document.now

-- what the build is asked for
abbrev pub setting_in : Build → BuildSettingModel
setting_in b = build_setting_view b.setting.now

-- the ids of the crates, by number
abbrev pub ids_in : Build → List Id
ids_in b = map id_of b.document.now.ids.now.table.ids.items

-- the machines that the build is for, by number
abbrev pub machines_in : Build → List MachineModel
machines_in b = lent_machines b.distinct.now

-- the machines are those that the build is for
abbrev pub AreMachines : Build → Type 0
AreMachines b = (m : MachineModel) → Contains (machines (setting_in b).host (setting_in b).targets) m ↔ Contains (machines_in b) m

-- ---- links

-- the crate of the dependency is a root or isn't, and the edge leads to one that has a package
pub record IsPairOf (b : Build) (is_root : Bool) (p : Pair) : Type 0 where
  pub root : IsTrue is_root ↔ IsBuildRoot (resolved_in b) (setting_in b) (id_of p.parent.now)
  pub pkg : PackageModel
  pub has_package : HasPackage (resolved_in b) (id_of p.child.now) pkg

-- the link is of this dependency with this edge
abbrev pub LinkSaysOf : Build → Pair → Link → Type 0
LinkSaysOf b p l = LinkSays (resolved_in b) (setting_in b) (ids_in b) (machines_in b) (id_of p.parent.now) l (pair_view p).0 (pair_view p).1

-- the links are of these dependencies with these edges, each at its place
pub record AreLinkEntries (b : Build) (number : ℕ) (pairs : List Pair) (links : List Link) : Type 0 where
  pub says : AllZip (LinkSaysOf b) pairs links
  pub places : (k : ℕ) (l : Link) → slice_get links k ≡ Some l → l.place ≡ record { krate = number; index = k }
