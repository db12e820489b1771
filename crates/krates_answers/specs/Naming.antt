-- Why a word doesn't mean one package of a document, and what a refusal says.
use Rattle.std.specs.List.{AllZip}
use Rattle.std.specs.Prelude.{◌≡◌, ◌≤◌, ◌++◌, [], List, All, Contains, ⊤, length, map, string_bytes}
use Rattle.krates_cm.specs.Document.{Text}
use Rattle.krates_cm.specs.declared.package.Package.{Package}
use Rattle.krates_queries.specs.KrateNodes.{Match}
use Rattle.krates_answers.specs.Meaning.{DocumentPackage, IsNoId, Means, MeansKept, MeansOther, kept_in, others_in, package_in, packages_in}
use Rattle.krates_answers.specs.PackageText.{IsTextAmong, named}
use Rattle.krates_answers.specs.Those.{AreThose}
use Rattle.krates_answers.specs.WordSpecification.{AskedPackages, AsksFor, AsksForNothing}
use Rattle.krates_answers.specs.declared.meaning.Packages.{Packages}
use Rattle.krates_answers.specs.declared.naming.NamingError.{NamingError}
use Rattle.krates_answers.specs.declared.naming.NamingError.TheVariants as errors

-- all packages of the document, those of the kept crates first
abbrev pub all_of : Packages → List Package
all_of p = map (λ m. m.krate) (kept_in p) ++ others_in p

-- ---- why a word doesn't mean one package

-- the word is no package's id, and asks for nothing, for this reason
pub record IsUnreadable (p : Packages) (word what : Text) : Type 0 where
  pub no_id : IsNoId p word
  pub nothing : AsksForNothing word what

-- The word asks for packages, and means none of the document; what comes near are packages of it.
pub record IsUnknown (p : Packages) (word : Text) (texts : List Text) : Type 0 where
  pub asked : AskedPackages
  pub asks : AsksFor word asked
  pub none : AreThose (Means p word) (packages_in p) []
  pub near : All (Contains (map named (all_of p))) texts

-- the word means no kept crate, and of the others exactly these, at least one
pub record AreNotKept (p : Packages) (word : Text) (texts : List Text) : Type 0 where
  pub others : List Package
  pub some : 1 ≤ length others
  pub none_kept : AreThose (MeansKept p word) (kept_in p) []
  pub meant : AreThose (MeansOther p word) (others_in p) others
  pub told : AllZip (IsTextAmong (all_of p)) others texts

-- the word means exactly these kept crates, which are several
pub record AreSeveralKept (p : Packages) (word : Text) (texts : List Text) : Type 0 where
  pub crates : List (Match Package)
  pub several : 2 ≤ length crates
  pub meant : AreThose (MeansKept p word) (kept_in p) crates
  pub told : AllZip (IsTextAmong (all_of p)) (map (λ m. m.krate) crates) texts

-- the word means exactly these packages, which are several
pub record AreSeveral (p : Packages) (word : Text) (texts : List Text) : Type 0 where
  pub packages : List DocumentPackage
  pub several : 2 ≤ length packages
  pub meant : AreThose (Means p word) (packages_in p) packages
  pub told : AllZip (IsTextAmong (all_of p)) (map package_in packages) texts

-- ---- what refusals say

-- the word asks for nothing, for the reason that is told; or memory ran out
abbrev pub IsUnread : Text → NamingError → Type 0
IsUnread word (errors.Unread said what) = (string_bytes said ≡ word) × AsksForNothing word (string_bytes what)
IsUnread word errors.Memory = ⊤
IsUnread word e = ⊥

-- no package is meant, or memory ran out
abbrev pub MeansNone : Packages → Text → NamingError → Type 0
MeansNone p word (errors.Unread said what) = (string_bytes said ≡ word) × IsUnreadable p word (string_bytes what)
MeansNone p word (errors.Unknown said near) = (string_bytes said ≡ word) × IsUnknown p word (map string_bytes near.items)
MeansNone p word errors.Memory = ⊤
MeansNone p word e = ⊥

-- not exactly one kept crate is meant, or memory ran out
abbrev pub MeansNotOneKept : Packages → Text → NamingError → Type 0
MeansNotOneKept p word (errors.NotKept said packages) = (string_bytes said ≡ word) × AreNotKept p word (map string_bytes packages.items)
MeansNotOneKept p word (errors.Several said specs) = (string_bytes said ≡ word) × AreSeveralKept p word (map string_bytes specs.items)
MeansNotOneKept p word e = MeansNone p word e

-- not exactly one package is meant, or memory ran out
abbrev pub MeansNotOne : Packages → Text → NamingError → Type 0
MeansNotOne p word (errors.Several said specs) = (string_bytes said ≡ word) × AreSeveral p word (map string_bytes specs.items)
MeansNotOne p word e = MeansNone p word e

-- ---- steps

-- it tells of packages that come near
abbrev pub TellsUnknown : Packages → Text → NamingError → Type 0
TellsUnknown p word (errors.Unknown said near) = (string_bytes said ≡ word) × All (Contains (map named (all_of p))) (map string_bytes near.items)
TellsUnknown p word e = ⊥

-- it tells that these aren't kept, each by its text
abbrev pub TellsNotKept : Packages → Text → List Package → NamingError → Type 0
TellsNotKept p word others (errors.NotKept said packages) = (string_bytes said ≡ word) × AllZip (IsTextAmong (all_of p)) others (map string_bytes packages.items)
TellsNotKept p word others e = ⊥

-- it tells that these are meant, each by its text
abbrev pub TellsSeveral : Packages → Text → List Package → NamingError → Type 0
TellsSeveral p word packages (errors.Several said specs) = (string_bytes said ≡ word) × AllZip (IsTextAmong (all_of p)) packages (map string_bytes specs.items)
TellsSeveral p word packages e = ⊥
