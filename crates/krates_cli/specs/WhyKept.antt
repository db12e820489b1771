-- Why a crate of a document is kept, as it is reported.
use Rattle.std.specs.Prelude.{◌≡◌, ℕ, ◌+◌, ◌<◌, List, All, length, ⊤}
use Rattle.krates_cm.specs.Document.{MetadataModel, Text}
use Rattle.krates_rules.specs.DerivationTexts.{derivation_lines}
use Rattle.krates_rules.specs.StepViews.{steps_view}
use Rattle.krates_rules.specs.declared.derivation.Step.{Step}
use Rattle.krates_selection.specs.KeptFacts.{HasTheseIds}
use Rattle.krates_ids.specs.Identity.{Identity}
use Rattle.krates_rules.specs.Checks.{IsAcceptedFor}
use Rattle.krates_rules.specs.Facts.{Crate}
use Rattle.krates_rules.specs.Resolved.{StandsAt, id_of}
use Rattle.krates_rules.specs.Setting.{SettingModel}
use Rattle.krates_rules.specs.StepParts.{HaveOwnFacts, IsUsedLater}
use Rattle.krates_rules.specs.Steps.{EndsIn}
use Rattle.krates_queries.specs.Kept.{KeptCrates, IsNotKept, ids_of}
use Rattle.krates_queries.specs.Why.{IsWhy}
use Rattle.krates_cli.specs.declared.run_error.RunError.{RunError}
use Rattle.krates_cli.specs.declared.run_error.RunError.TheVariants as errors

-- The steps are a derivation of the crate: they are accepted for the document and the setting, and end in it. No fact occurs twice, and each step but
-- the last is used by a later one. Their ids are of these, with their texts.
pub record IsWhyKept (s : SettingModel) (m : MetadataModel) (kids : List Identity) (krate : Identity) (steps : List Step) : Type 0 where
  pub accepted : IsAcceptedFor m s (steps_view steps)
  pub ends : EndsIn (steps_view steps) (Crate (id_of krate))
  pub own : HaveOwnFacts (steps_view steps)
  pub used : (j : ℕ) → j + 1 < length steps → IsUsedLater (steps_view steps) j
  pub ids : All (λ (x : Step). HasTheseIds kids x.fact) steps

-- ---- of what a build keeps; cited by private functions alone

-- these are the lines of the derivation of the crate's node
pub record ExplainsKept {N E : Type 0} (k : KeptCrates N E) (krate : Identity) (lines : Text) : Type 0 where
  pub number : ℕ
  pub stands : StandsAt (ids_of k) (id_of krate) number
  pub steps : List Step
  pub why : IsWhy k number steps
  pub ends : EndsIn (steps_view steps) (Crate (id_of krate))
  pub written : lines ≡ derivation_lines steps

-- why there are none: the crate isn't kept, or memory ran out
abbrev pub IsUnexplained : {N E : Type 0} → KeptCrates N E → Identity → RunError → Type 0
IsUnexplained k krate (errors.NotKept same) = (same ≡ krate) × IsNotKept k (id_of krate)
IsUnexplained k krate errors.Memory = ⊤
IsUnexplained k krate _ = ⊥
