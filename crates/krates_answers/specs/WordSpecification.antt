-- A word as cargo's `--package` takes it: a package specification, whose version may lack its last numbers (Cargo Book, "Package ID
-- Specifications").
use Rattle.std.specs.Prelude.{◌≡◌, ◌++◌, [], Option, Some, None, IfSome, codes}
use Rattle.krates_cm.specs.Document.{PackageModel, Text, VersionModel}
use Rattle.krates_ids.specs.PackageSpecification.{Specification, IsSpec, IsSpecFault, SpecFits, spec_view}
use Rattle.krates_answers.specs.declared.word_specification.FirstNumbers.{FirstNumbers}
use Rattle.krates_answers.specs.declared.word_specification.WordSpecification.{WordSpecification}

-- ---- what a word asks for

-- a specification, and the first numbers of the version, where the word has only these
pub record AskedPackages : Type 0 where
  pub spec : Specification
  pub numbers : Option FirstNumbers

abbrev pub asked_view : WordSpecification → AskedPackages
asked_view w = record { spec = spec_view w.spec; numbers = w.numbers }

-- ---- which word asks for what

-- the word isn't a specification as it is
abbrev pub IsNoSpec : Text → Type 0
IsNoSpec word = (spec : Specification) → IsSpec word spec.name spec.version spec.url → ⊥

-- With these zeros at its end the word is a specification that has a version, and is otherwise this one.
pub record IsCompletedBy (zeros word : Text) (spec : Specification) (version : VersionModel) : Type 0 where
  pub is : IsSpec (word ++ zeros) spec.name (Some version) spec.url
  pub versionless : spec.version ≡ None

abbrev pub IsNotCompletedBy : Text → Text → Type 0
IsNotCompletedBy zeros word = (spec : Specification) (version : VersionModel) → IsCompletedBy zeros word spec version → ⊥

-- The word is a specification whose version lacks its last number, or its last two: zeros complete it, and the numbers before them are
-- asked for.
pub data LacksNumbers (word : Text) : AskedPackages → Type 0 where
  the_last : (spec : Specification) (version : VersionModel) → IsCompletedBy (codes ".0") word spec version
      → LacksNumbers word (record { spec = spec; numbers = Some (record { major = version.0; minor = Some version.1 }) })
  the_last_two : (spec : Specification) (version : VersionModel) → IsNotCompletedBy (codes ".0") word → IsCompletedBy (codes ".0.0") word spec version
      → LacksNumbers word (record { spec = spec; numbers = Some (record { major = version.0; minor = None }) })

-- A specification asks for what it says, and a word that isn't one for what it says but for numbers that its version lacks.
pub data AsksFor (word : Text) : AskedPackages → Type 0 where
  whole : (spec : Specification) → IsSpec word spec.name spec.version spec.url → AsksFor word (record { spec = spec; numbers = None })
  but_for_numbers : (asked : AskedPackages) → IsNoSpec word → LacksNumbers word asked → AsksFor word asked

-- the word asks for nothing: it is no specification, for this reason, and is completed to none
pub record AsksForNothing (word what : Text) : Type 0 where
  pub fault : IsSpecFault word what
  pub nothing : (asked : AskedPackages) → AsksFor word asked → ⊥

-- ---- which packages it fits

-- The version begins with these numbers, and is no pre-release, for which a word has to name the whole version.
pub record BeginsWith (numbers : FirstNumbers) (version : VersionModel) : Type 0 where
  pub major : version.0 ≡ numbers.major
  pub minor : IfSome numbers.minor (λ minor. version.1 ≡ minor)
  pub released : version.3 ≡ []

-- the package is asked for
pub record IsAskedFor (asked : AskedPackages) (pkg : PackageModel) : Type 0 where
  pub spec : SpecFits asked.spec pkg
  pub version : IfSome asked.numbers (λ numbers. BeginsWith numbers pkg.version)
