-- What the refusals of the crates below become, and what is printed of a refusal.
use Rattle.std.specs.Prelude.{◌≡◌, ◌++◌, Option, Some, codes, ⊤}
use Rattle.krates_cm.specs.Document.{Text}
use Rattle.krates_cm.specs.contracts.error.ErrorDisplay.TheImpl.{ghosts as cm_display}
use Rattle.krates_cm.specs.declared.error.Error as cm
use Rattle.krates_cm.specs.declared.error.Error.TheVariants as cm_errors
use Rattle.krates_ids.specs.contracts.error.ErrorDisplay.TheImpl.{ghosts as build_display}
use Rattle.krates_ids.specs.declared.error.Error as build
use Rattle.krates_ids.specs.declared.error.Error.TheVariants as build_errors
use Rattle.krates_cli.specs.declared.run_error.RunError.{RunError}
use Rattle.krates_cli.specs.declared.run_error.RunError.TheVariants as runs
use Rattle.krates_verdict.specs.declared.refusal.Refusal as verdict
use Rattle.krates_verdict.specs.declared.refusal.Refusal.TheVariants as verdicts
use Rattle.krates_verdict.specs.RefusalText as verdict_texts
use Rattle.krates_foreign.specs.declared.refusal.CallRefusal.{CallRefusal}
use Rattle.krates_foreign.specs.declared.refusal.CallRefusal.TheVariants as refusals

-- ---- what a refusal of a crate below becomes: out of memory stays out of memory

abbrev pub ParseErrorBecomes : cm.Error → CallRefusal → Type 0
ParseErrorBecomes cause (refusals.Parse same) = (same ≡ cause) × (cause ≡ cm_errors.Memory → ⊥)
ParseErrorBecomes cause refusals.Memory = cause ≡ cm_errors.Memory
ParseErrorBecomes cause _ = ⊥

abbrev pub BuildErrorBecomes : build.Error → CallRefusal → Type 0
BuildErrorBecomes cause (refusals.Build same) = (same ≡ cause) × (cause ≡ build_errors.Memory → ⊥)
BuildErrorBecomes cause refusals.Memory = cause ≡ build_errors.Memory
BuildErrorBecomes cause _ = ⊥

abbrev pub VerdictErrorBecomes : verdict.Refusal → CallRefusal → Type 0
VerdictErrorBecomes cause (refusals.Certificate same) = (same ≡ cause) × (cause ≡ verdicts.Memory → ⊥)
VerdictErrorBecomes cause refusals.Memory = cause ≡ verdicts.Memory
VerdictErrorBecomes cause _ = ⊥

-- a document has no listing for such a cause
abbrev pub IsOfListing : RunError → Type 0
IsOfListing (runs.Build cause) = ⊤
IsOfListing (runs.NotKept krate) = ⊤
IsOfListing runs.Memory = ⊤
IsOfListing _ = ⊥

abbrev pub ListingErrorBecomes : RunError → CallRefusal → Type 0
ListingErrorBecomes (runs.Build cause) refusal = refusal ≡ refusals.Build cause
ListingErrorBecomes (runs.NotKept krate) refusal = refusal ≡ refusals.NotKept krate
ListingErrorBecomes _ refusal = refusal ≡ refusals.Memory

-- ---- what is printed

-- What is printed of a refusal, where that is stated; of a text, a build and a certificate it is what the cause prints, where its crate states that.
abbrev pub refusal_text : CallRefusal → Option Text
refusal_text refusals.Words = Some (codes "the options are not those of a setting")
refusal_text refusals.Id = Some (codes "the text is not a package id")
refusal_text refusals.Utf8 = Some (codes "the document is not UTF-8")
refusal_text (refusals.Parse cause) = cm_display.output cause
refusal_text (refusals.Build cause) = build_display.output cause
refusal_text (refusals.NotKept krate) = Some (codes "not kept: " ++ krate.text)
refusal_text (refusals.Certificate cause) = verdict_texts.refusal_text cause
refusal_text refusals.Memory = Some (codes "out of memory")
