-- Which packages of a document a word means.
use Rattle.std.specs.Prelude.{◌≡◌, ◌++◌, List, Contains, MatchOption, Option, ⊤, map}
use Rattle.krates_cm.specs.Document.{Text, id_view, package_view}
use Rattle.krates_cm.specs.declared.package.Package.{Package}
use Rattle.krates_ids.specs.Identity.{Identity, Reads}
use Rattle.krates_ids.specs.declared.id_error.IdError.{IdError}
use Rattle.krates_ids.specs.declared.id_error.IdError.TheVariants as id_errors
use Rattle.krates_queries.specs.KrateNodes.{Match, match_view}
use Rattle.krates_rules.specs.Facts.{Id}
use Rattle.krates_rules.specs.Resolved.{ReadsAs, id_of}
use Rattle.krates_answers.specs.Those.{AreThose}
use Rattle.krates_answers.specs.WordSpecification.{AskedPackages, AsksFor, IsAskedFor, asked_view}
use Rattle.krates_answers.specs.declared.meaning.Meant.{Meant}
use Rattle.krates_answers.specs.declared.meaning.Meant.TheVariants as meant
use Rattle.krates_answers.specs.declared.meaning.Packages.{Packages}
use Rattle.krates_answers.specs.declared.meaning.Reading.{Reading}
use Rattle.krates_answers.specs.declared.meaning.Reading.TheVariants as reading

-- ---- the packages

-- a package of a document: a crate that is kept, or another package
pub data DocumentPackage : Type 0 where
  kept : Match Package → DocumentPackage
  other : Package → DocumentPackage

-- the package itself
abbrev pub package_in : DocumentPackage → Package
package_in (kept m) = m.krate
package_in (other pkg) = pkg

-- those that are kept, and the others, as clauses see them
abbrev pub kept_in : Packages → List (Match Package)
kept_in p = map match_view p.kept.now

abbrev pub others_in : Packages → List Package
others_in p = map (λ pkg. pkg.now) p.others.now

-- those of a document, first the kept ones
abbrev pub packages_in : Packages → List DocumentPackage
packages_in p = map kept (kept_in p) ++ map other (others_in p)

-- the package has this id
abbrev pub HasId : Id → DocumentPackage → Type 0
HasId id (kept m) = id_of m.id ≡ id
HasId id (other pkg) = ReadsAs (id_view pkg.id) id

-- ---- what a word means

-- the word is the id of the package
pub record IsIdOf (word : Text) (d : DocumentPackage) : Type 0 where
  pub id : Id
  pub reads : ReadsAs word id
  pub has : HasId id d

-- no package of the document has the word as its id
abbrev pub IsNoId : Packages → Text → Type 0
IsNoId p word = (d : DocumentPackage) → Contains (packages_in p) d → IsIdOf word d → ⊥

-- the word asks for the package
pub record AsksForPackage (word : Text) (d : DocumentPackage) : Type 0 where
  pub asked : AskedPackages
  pub asks : AsksFor word asked
  pub fits : IsAskedFor asked (package_view (package_in d))

-- A word that is the id of a package of the document, as cargo prints it, means the package with that id. Any other means the packages for
-- which it asks as a specification.
pub data Means (p : Packages) (word : Text) (d : DocumentPackage) : Type 0 where
  by_id : IsIdOf word d → Means p word d
  by_specification : IsNoId p word → AsksForPackage word d → Means p word d

-- the same for a kept crate, and for another package
abbrev pub MeansKept : Packages → Text → Match Package → Type 0
MeansKept p word m = Means p word (kept m)

abbrev pub MeansOther : Packages → Text → Package → Type 0
MeansOther p word pkg = Means p word (other pkg)

-- a package that is meant, as clauses see it
abbrev pub meant_view : Meant → DocumentPackage
meant_view (meant.Kept found) = kept (match_view found)
meant_view (meant.Other pkg) = other pkg.now

-- ---- steps

-- a reading of a word means the package
abbrev pub IsMeantBy : Reading → DocumentPackage → Type 0
IsMeantBy (reading.Id kid) d = HasId (id_of kid.now) d
IsMeantBy (reading.Specification asked) d = IsAskedFor (asked_view asked.now) (package_view (package_in d))

-- the id as which a text is read, or none, where it isn't one
abbrev pub ReadsIfAny : Text → Option Identity → Type 0
ReadsIfAny t found = MatchOption found ((id : Identity) → Reads t id → ⊥) (Reads t)

-- the text has a fault, so it isn't for want of memory that it isn't read
abbrev pub IsFaulty : IdError → Type 0
IsFaulty (id_errors.Memory back) = ⊥
IsFaulty e = ⊤

-- of the packages of the document exactly these kept crates and these others have the property
pub record AreParted (P : DocumentPackage → Type 0) (p : Packages) (crates : List (Match Package)) (rest : List Package) : Type 0 where
  pub kept_ones : AreThose (λ m. P (kept m)) (kept_in p) crates
  pub others : AreThose (λ pkg. P (other pkg)) (others_in p) rest
