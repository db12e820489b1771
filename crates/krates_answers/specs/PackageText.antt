-- The text of a package, as a word that means it.
use Rattle.std.specs.Prelude.{◌≡◌, ◌≤◌, List, None, Some, length}
use Rattle.krates_cm.specs.Document.{Text, id_view, text_view}
use Rattle.krates_cm.specs.declared.package.Package.{Package}
use Rattle.krates_ids.specs.PackageSpecification.{specification}
use Rattle.krates_ids.specs.SpecificationText.{spec_text}
use Rattle.semver.specs.Identifiers.{parts_of}
use Rattle.krates_answers.specs.Those.{AreThose}

-- NAME@VERSION, a specification that fits the package
abbrev pub named : Package → Text
named pkg = spec_text (specification (text_view pkg.name) (Some (parts_of pkg.version)) None)

-- the packages have one name and one version
pub record IsNamesake (pkg other : Package) : Type 0 where
  pub name : text_view other.name ≡ text_view pkg.name
  pub version : parts_of other.version ≡ parts_of pkg.version

-- The text names the package apart from all others of these: its name and version, or its id where another has both too.
pub data IsTextAmong (all : List Package) (pkg : Package) (t : Text) : Type 0 where
  by_name : (namesakes : List Package) → AreThose (IsNamesake pkg) all namesakes → length namesakes ≤ 1 → t ≡ named pkg → IsTextAmong all pkg t
  by_id : (namesakes : List Package) → AreThose (IsNamesake pkg) all namesakes → 2 ≤ length namesakes → t ≡ id_view pkg.id → IsTextAmong all pkg t
