-- What a document and a setting say about lists of steps and lists of facts.
use Rattle.std.specs.Prelude.{◌≡◌, ℕ, List, [], ◌∷◌, ◌++◌, Contains}
use Rattle.krates_cm.specs.Document.{MetadataModel}
use Rattle.krates_ids.specs.declared.error.Error.{Error}
use Rattle.krates_ids.specs.declared.error.Error.TheVariants as errors
use Rattle.krates_rules.specs.Admission.{IdsModel, IsAdmitted}
use Rattle.krates_rules.specs.AdmissionRefusals.{AdmissionRefusal}
use Rattle.krates_rules.specs.Derivation.{Derivable, IsClosed}
use Rattle.krates_rules.specs.Facts.{Fact}
use Rattle.krates_rules.specs.Questions.{questions}
use Rattle.krates_rules.specs.Resolved.{Resolved, resolved, HasGraphWith}
use Rattle.krates_rules.specs.Rules.{Questions}
use Rattle.krates_rules.specs.Setting.{SettingModel}
use Rattle.krates_rules.specs.StepParts.{IsPart}
use Rattle.krates_rules.specs.Steps.{StepModel, EachFollows, IsAccepted, EndsIn, Gives}

-- ---- for a document

-- the document is admitted, and this holds of what it and the setting answer the rules
pub record Answers (m : MetadataModel) (s : SettingModel) (P : Questions → Type 0) : Type 0 where
  pub ids : IdsModel
  pub admitted : IsAdmitted m ids
  pub holds : HasGraphWith m (λ g. P (questions (resolved m g) s))

-- the document isn't admitted
pub record IsTurnedAway (m : MetadataModel) : Type 0 where
  pub error : Error
  pub refused : AdmissionRefusal m error
  pub not_memory : error ≡ errors.Memory → ⊥

-- the list of steps is accepted
abbrev pub IsAcceptedFor : MetadataModel → SettingModel → List StepModel → Type 0
IsAcceptedFor m s steps = Answers m s (λ q. IsAccepted q steps)

-- the list of facts is closed: it has each fact that follows by one rule from facts in it, lost facts too
abbrev pub IsClosedFor : MetadataModel → SettingModel → List Fact → Type 0
IsClosedFor m s fs = Answers m s (λ q. IsClosed q fs)

-- ---- laws

-- each step of an accepted list has a fact that is derivable
abbrev pub AreSound : Type 0
AreSound = (r : Resolved) (s : SettingModel) (steps : List StepModel) → IsAccepted (questions r s) steps → (x : StepModel) → Contains steps x → Derivable (questions r s) x.fact

-- and so has the last step
abbrev pub LastIsDerivable : Type 0
LastIsDerivable = (r : Resolved) (s : SettingModel) (steps : List StepModel) (f : Fact) → IsAccepted (questions r s) steps → EndsIn steps f → Derivable (questions r s) f

-- a closed list has every fact that is derivable
abbrev pub AreComplete : Type 0
AreComplete = (r : Resolved) (s : SettingModel) (fs : List Fact) → IsClosed (questions r s) fs → (f : Fact) → Derivable (questions r s) f → Contains fs f

-- what a list gives is derivable
abbrev pub GivenIsDerivable : Type 0
GivenIsDerivable = (r : Resolved) (s : SettingModel) (steps : List StepModel) (rule : ℕ) (uses : List ℕ) (f : Fact) → EachFollows (questions r s) steps → Gives (questions r s) steps rule uses f → Derivable (questions r s) f

-- it may be appended
abbrev pub GivenIsPut : Type 0
GivenIsPut = (r : Resolved) (s : SettingModel) (steps : List StepModel) (rule : ℕ) (uses : List ℕ) (f : Fact) → EachFollows (questions r s) steps → Gives (questions r s) steps rule uses f
    → EachFollows (questions r s) (steps ++ record { rule = rule; fact = f; uses = uses } ∷ [])

-- and is still given after the list has grown
abbrev pub GivenStays : Type 0
GivenStays = (r : Resolved) (s : SettingModel) (steps more : List StepModel) (rule : ℕ) (uses : List ℕ) (f : Fact) → Gives (questions r s) steps rule uses f → Gives (questions r s) (steps ++ more) rule uses f

-- if the steps of a list follow, so do the steps of a part
abbrev pub PartsFollow : Type 0
PartsFollow = (r : Resolved) (s : SettingModel) (steps : List StepModel) (chosen : List ℕ) (part : List StepModel) → IsPart steps chosen part → EachFollows (questions r s) steps → EachFollows (questions r s) part
