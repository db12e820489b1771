-- Machines, steps and certificates of a build as clauses see them: each text is its bytes.
use Rattle.std.specs.Prelude.{ℕ, List, map}
use Rattle.krates_cm.specs.Document.{Text, text_view, texts_view}
use Rattle.krates_build_certificate.specs.declared.certificate.BuildCertificate.{BuildCertificate}
use Rattle.krates_build_certificate.specs.declared.certificate.BuildClaim.{BuildClaim}
use Rattle.krates_build_certificate.specs.declared.certificate.BuildClaim.TheVariants as claims
use Rattle.krates_build_certificate.specs.declared.machine_text.MachineText.{MachineText}
use Rattle.krates_build_certificate.specs.declared.step.NamedStep.{NamedStep}

-- a machine: its triple, and what rustc prints of it
pub record ToldMachine : Type 0 where
  pub triple : Text
  pub cfg : Text

-- a step: the words of its fact, and the numbers of the steps that it uses
pub record ToldStep : Type 0 where
  pub fact : List Text
  pub uses : List ℕ

-- what a certificate claims: steps, or that facts are closed, each by its words
pub data ToldClaim : Type 0 where
  told_steps : (steps : List ToldStep) → ToldClaim
  told_closed : (facts : List (List Text)) → ToldClaim

pub record ToldCertificate : Type 0 where
  pub setting : List Text
  pub machines : List ToldMachine
  pub claim : ToldClaim

-- ---- how a value is represented

abbrev pub machine_told : MachineText → ToldMachine
machine_told m = record { triple = text_view m.triple; cfg = text_view m.cfg }

abbrev pub step_told : NamedStep → ToldStep
step_told x = record { fact = texts_view x.fact; uses = x.uses.items }

abbrev pub claim_told : BuildClaim → ToldClaim
claim_told (claims.Steps steps) = told_steps (map step_told steps.items)
claim_told (claims.Closed facts) = told_closed (map texts_view facts.items)

abbrev pub certificate_told : BuildCertificate → ToldCertificate
certificate_told c = record { setting = texts_view c.setting; machines = map machine_told c.machines.items; claim = claim_told c.claim }
