-- What a checker that is given no index says.
use Rattle.std.proofs.Common.{◌≡◌, ◌∙◌, None, refl, subst, sym}
use Rattle.krates_cm.specs.Document.{MetadataModel}
use Rattle.krates_checkers.specs.CheckRefusals.{IsRefusedThrough}
use Rattle.krates_checkers.specs.CheckedDocument.{HoldsOfChecked}
use Rattle.krates_checkers.specs.declared.check_error.CheckError.{CheckError}
use Rattle.krates_checkers.specs.declared.check_error.CheckError.TheVariants as causes
use Rattle.krates_verdict.specs.RefusalText.{CheckErrorBecomes}
use Rattle.krates_verdict.specs.VerdictRefusals.{IsObjection}
use Rattle.krates_verdict.specs.declared.refusal.Refusal.{Refusal}
use Rattle.krates_verdict.specs.declared.refusal.Refusal.TheVariants as refusals

-- without an index the document is checked as it is given
pub as_given : (m : MetadataModel) (P : MetadataModel → Type 0) → HoldsOfChecked None m P → P m
as_given m P h = subst P h.is_seen h.holds

refused_as_given : (m : MetadataModel) (R : MetadataModel → CheckError → Type 0) (cause : CheckError) → IsRefusedThrough None m R cause → (cause ≡ causes.Memory → ⊥) → R m cause
refused_as_given m R causes.Document h limited = as_given m (λ d. R d causes.Document) h
refused_as_given m R causes.Empty h limited = as_given m (λ d. R d causes.Empty) h
refused_as_given m R (causes.Step number) h limited = as_given m (λ d. R d (causes.Step number)) h
refused_as_given m R causes.Memory h limited = absurd (limited refl)
refused_as_given m R causes.Open h limited = as_given m (λ d. R d causes.Open) h

-- what a checker says is an objection
pub objects : (m : MetadataModel) (R : MetadataModel → CheckError → Type 0) (cause : CheckError) (e : Refusal) → IsRefusedThrough None m R cause → CheckErrorBecomes cause e → IsObjection (R m) e
objects m R cause (refusals.Check same) h becomes = (
  subst (R m) (sym becomes.0) (refused_as_given m R cause h becomes.1),
  λ is_memory. becomes.1 (sym becomes.0 ∙ is_memory),
)
objects m R cause refusals.Memory h becomes = tt
objects m R cause (refusals.Read _) h becomes = absurd becomes
objects m R cause refusals.Utf8 h becomes = absurd becomes
objects m R cause (refusals.Certificate _) h becomes = absurd becomes
objects m R cause (refusals.Setting _) h becomes = absurd becomes
objects m R cause (refusals.Write _) h becomes = absurd becomes
