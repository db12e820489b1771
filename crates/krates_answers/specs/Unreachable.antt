-- Why a crate can't be kept, whatever the search did.
use Rattle.std.specs.Prelude.{Bool, true, false, List, Contains}
use Rattle.krates_checkers.specs.CheckRefusals.{IsClosedRefused}
use Rattle.krates_checkers.specs.declared.check_error.CheckError.{CheckError}
use Rattle.krates_cm.specs.Document.{MetadataModel}
use Rattle.krates_rules.specs.Checks.{Answers, IsClosedFor}
use Rattle.krates_rules.specs.Derivation.{Derivable}
use Rattle.krates_rules.specs.Facts.{Crate, Fact, Id}
use Rattle.krates_rules.specs.Setting.{SettingModel}

-- the document is admitted, and no derivation leads to the crate
abbrev pub IsUnreachable : MetadataModel → SettingModel → Id → Type 0
IsUnreachable m s id = Answers m s (λ q. Derivable q (Crate id) → ⊥)

-- the facts don't say that the crate is kept
abbrev pub LackCrate : List Fact → Id → Type 0
LackCrate facts id = Contains facts (Crate id) → ⊥

-- The facts are closed under the rules and lack the crate, so it is unreachable.
pub record IsShownUnreachable (m : MetadataModel) (s : SettingModel) (facts : List Fact) (id : Id) : Type 0 where
  pub closed : IsClosedFor m s facts
  pub lack : LackCrate facts id
  pub unreachable : IsUnreachable m s id

-- the answer is yes only if that holds, and no only if the facts have the crate
abbrev pub TellsUnreachable : MetadataModel → SettingModel → List Fact → Id → Bool → Type 0
TellsUnreachable m s facts id true = IsShownUnreachable m s facts id
TellsUnreachable m s facts id false = Contains facts (Crate id)

-- there is no answer: the facts lack the crate, and aren't accepted as closed, for this cause
abbrev pub IsUntold : MetadataModel → SettingModel → List Fact → Id → CheckError → Type 0
IsUntold m s facts id cause = LackCrate facts id × IsClosedRefused m s facts cause
