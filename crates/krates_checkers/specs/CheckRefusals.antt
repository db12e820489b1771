-- Why a list of steps or of facts isn't accepted. Each cause is true; memory may always run out.
use Rattle.std.specs.Prelude.{◌≡◌, List, Option, length, ⊤}
use Rattle.krates_cm.specs.Document.{MetadataModel}
use Rattle.krates_checkers.specs.CheckedDocument.{HoldsOfChecked}
use Rattle.krates_checkers.specs.declared.check_error.CheckError.{CheckError}
use Rattle.krates_checkers.specs.declared.check_error.CheckError.TheVariants as refusals
use Rattle.krates_ids.specs.Correction.{IndexModel}
use Rattle.krates_rules.specs.Checks.{Answers, IsTurnedAway}
use Rattle.krates_rules.specs.Derivation.{IsClosed}
use Rattle.krates_rules.specs.Facts.{Fact}
use Rattle.krates_rules.specs.Rules.{Questions}
use Rattle.krates_rules.specs.Setting.{SettingModel}
use Rattle.krates_rules.specs.Steps.{StepModel, FailsFirst}

-- why not every step follows
abbrev pub IsStepFault : Questions → List StepModel → CheckError → Type 0
IsStepFault q steps (refusals.Step number) = FailsFirst q steps number
IsStepFault q steps refusals.Memory = ⊤
IsStepFault q steps _ = ⊥

-- why a list of steps isn't accepted
abbrev pub IsCheckRefused : MetadataModel → SettingModel → List StepModel → CheckError → Type 0
IsCheckRefused m s steps refusals.Document = IsTurnedAway m
IsCheckRefused m s steps refusals.Empty = Answers m s (λ q. length steps ≡ 0)
IsCheckRefused m s steps (refusals.Step number) = Answers m s (λ q. FailsFirst q steps number)
IsCheckRefused m s steps refusals.Memory = ⊤
IsCheckRefused m s steps refusals.Open = ⊥

-- why a list of facts isn't closed
abbrev pub IsClosedRefused : MetadataModel → SettingModel → List Fact → CheckError → Type 0
IsClosedRefused m s fs refusals.Document = IsTurnedAway m
IsClosedRefused m s fs refusals.Open = Answers m s (λ q. IsClosed q fs → ⊥)
IsClosedRefused m s fs refusals.Memory = ⊤
IsClosedRefused m s fs refusals.Empty = ⊥
IsClosedRefused m s fs (refusals.Step number) = ⊥

-- why a document can't be checked
abbrev pub IsUnread : MetadataModel → CheckError → Type 0
IsUnread m refusals.Document = IsTurnedAway m
IsUnread m refusals.Memory = ⊤
IsUnread m _ = ⊥

-- why the document that is checked is refused; memory may always run out
abbrev pub IsRefusedThrough : Option IndexModel → MetadataModel → (MetadataModel → CheckError → Type 0) → CheckError → Type 0
IsRefusedThrough index m R refusals.Document = HoldsOfChecked index m (λ seen. R seen refusals.Document)
IsRefusedThrough index m R refusals.Empty = HoldsOfChecked index m (λ seen. R seen refusals.Empty)
IsRefusedThrough index m R (refusals.Step number) = HoldsOfChecked index m (λ seen. R seen (refusals.Step number))
IsRefusedThrough index m R refusals.Memory = ⊤
IsRefusedThrough index m R refusals.Open = HoldsOfChecked index m (λ seen. R seen refusals.Open)
