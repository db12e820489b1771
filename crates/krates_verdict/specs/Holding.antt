-- When a certificate holds of a document and a setting, and what it says then.
use Rattle.std.specs.Prelude.{◌≡◌, ◌↔◌, ℕ, List, [], ◌∷◌, ◌++◌, Contains, length, ⊤}
use Rattle.krates_cm.specs.Document.{MetadataModel, Text, texts_view}
use Rattle.krates_certificate.specs.declared.certificate.Certificate.{Certificate}
use Rattle.krates_certificate.specs.declared.certificate.Certificate.TheVariants as certificates
use Rattle.krates_rules.specs.Checks.{IsAcceptedFor, IsClosedFor}
use Rattle.krates_rules.specs.Facts as rules
use Rattle.krates_rules.specs.Facts.{Crate, Id}
use Rattle.krates_rules.specs.StepViews.{fact_view, facts_view, steps_view}
use Rattle.krates_rules.specs.declared.derivation.Step.{Step}
use Rattle.krates_verdict.specs.NamedFact.{NamesIn}
use Rattle.krates_verdict.specs.Subject.{SubjectModel}
use Rattle.krates_verdict.specs.declared.named_fact.NamedFact.{NamedFact}
use Rattle.krates_verdict.specs.declared.named_fact.NamedFact.TheVariants as named
use Rattle.krates_verdict.specs.declared.verdict.Verdict.{Verdict}
use Rattle.krates_verdict.specs.declared.verdict.Verdict.TheVariants as verdicts

-- ---- of a list of steps

-- what this many steps say, the last of which has the fact
abbrev pub said_last : NamedFact → ℕ → Verdict
said_last (named.Crate krate) steps = verdicts.Kept krate steps
said_last (named.Feature krate name) steps = verdicts.Follows (named.Feature krate name) steps
said_last (named.Kept parent child kind cfg) steps = verdicts.Follows (named.Kept parent child kind cfg) steps
said_last (named.Toggled parent child name) steps = verdicts.Follows (named.Toggled parent child name) steps

-- This is what the steps say of the document: the fact of the last of them, as the document names it, and how many they are.
pub record StepsSay (m : MetadataModel) (steps : List Step) (verdict : Verdict) : Type 0 where
  pub before : List Step
  pub last : Step
  pub ends : steps ≡ before ++ last ∷ []
  pub fact : NamedFact
  pub is_named : NamesIn m (fact_view last.fact) fact
  pub says : verdict ≡ said_last fact (length steps)

-- ---- of a list of facts

-- no id is in the list twice
abbrev pub StandOnce : List Id → Type 0
StandOnce [] = ⊤
StandOnce (id ∷ ids) = (Contains ids id → ⊥) × StandOnce ids

-- this is what the facts say: how many crates they name, each counted once
pub record FactsSay (fs : List rules.Fact) (verdict : Verdict) : Type 0 where
  pub krates : List Id
  pub once : StandOnce krates
  pub exactly : (id : Id) → Contains krates id ↔ Contains fs (Crate id)
  pub says : verdict ≡ verdicts.Closed (length krates)

-- ---- of a certificate

-- the words under which it was made
abbrev pub words_of : Certificate → List Text
words_of (certificates.Derivation words derivation) = texts_view words
words_of (certificates.Closed words listed) = texts_view words

-- what it has is accepted for the document and the setting: a list of steps, or a list of facts that is closed
abbrev pub IsAccepted : SubjectModel → Certificate → Type 0
IsAccepted s (certificates.Derivation words derivation) = IsAcceptedFor s.metadata s.setting (steps_view derivation.steps.items)
IsAccepted s (certificates.Closed words listed) = IsClosedFor s.metadata s.setting (facts_view listed.items)

-- this is what it says of the document
abbrev pub Says : MetadataModel → Certificate → Verdict → Type 0
Says m (certificates.Derivation words derivation) verdict = StepsSay m derivation.steps.items verdict
Says m (certificates.Closed words listed) verdict = FactsSay (facts_view listed.items) verdict

-- It is of this setting, by its words, it is accepted, and this is what it says.
pub record Holds (s : SubjectModel) (certificate : Certificate) (verdict : Verdict) : Type 0 where
  pub same_words : words_of certificate ≡ s.words
  pub accepted : IsAccepted s certificate
  pub says : Says s.metadata certificate verdict
