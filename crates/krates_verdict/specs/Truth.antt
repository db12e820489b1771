-- What a verdict means by the rules of resolution.
use Rattle.std.specs.Prelude.{◌≡◌, ℕ, Contains, List, length}
use Rattle.krates_cm.specs.Document.{MetadataModel}
use Rattle.krates_rules.specs.Checks.{Answers}
use Rattle.krates_rules.specs.Derivation.{Derivable}
use Rattle.krates_rules.specs.Facts.{Crate, Fact, Id}
use Rattle.krates_verdict.specs.Holding.{StandOnce}
use Rattle.krates_verdict.specs.NamedFact.{IsAbout, Names, NamesIn}
use Rattle.krates_verdict.specs.Subject.{SubjectModel}
use Rattle.krates_verdict.specs.declared.named_fact.NamedFact.{NamedFact}

-- the document is admitted, and the fact has a derivation under the setting
abbrev pub IsDerivable : SubjectModel → Fact → Type 0
IsDerivable s f = Answers s.metadata s.setting (λ q. Derivable q f)

-- what is named is true: a fact that has a derivation
abbrev pub NamesDerivable : SubjectModel → NamedFact → Type 0
NamesDerivable s fact = (f : Fact) × Names fact f × IsDerivable s f

-- Nothing is named but what the document has: its packages, by their id texts, and a feature or an edge of its nodes.
abbrev pub NamesWhatIsThere : MetadataModel → NamedFact → Type 0
NamesWhatIsThere m fact = (f : Fact) × NamesIn m f fact × IsAbout m f

-- the document is admitted, and each crate that is kept under the setting is one of this many
pub record AreAllReachable (s : SubjectModel) (count : ℕ) : Type 0 where
  pub krates : List Id
  pub once : StandOnce krates
  pub counted : count ≡ length krates
  pub all : Answers s.metadata s.setting (λ q. (id : Id) → Derivable q (Crate id) → Contains krates id)
