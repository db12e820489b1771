-- Which packages of a document are listed.
use Rattle.std.specs.Prelude.{◌↔◌, List, Contains}
use Rattle.std.specs.List.{AllZip}
use Rattle.std.specs.List.Sorted.{IsStrictlySortedBy}
use Rattle.krates_cm.specs.Document.{id_view}
use Rattle.krates_cm.specs.declared.package.Package.{Package}
use Rattle.krates_ids.specs.Identity.{Identity, Reads, id_cmp}
use Rattle.krates_rules.specs.Facts.{Id}
use Rattle.krates_rules.specs.Resolved.{ReadsAs}

-- The package's id is one of those.
pub record HasIdAmong (P : Id → Type 0) (pkg : Package) : Type 0 where
  pub id : Id
  pub reads : ReadsAs (id_view pkg.id) id
  pub holds : P id

-- Of all packages exactly those whose id is one of those are listed, each once, in the order of their ids; the ids are
-- these, place by place.
pub record AreThosePackages (all : List Package) (P : Id → Type 0) (ids : List Identity) (listed : List Package) : Type 0 where
  pub read : AllZip (λ pkg i. Reads (id_view pkg.id) i) listed ids
  pub ascending : IsStrictlySortedBy id_cmp ids
  pub exactly : (pkg : Package) → Contains listed pkg ↔ (Contains all pkg × HasIdAmong P pkg)
