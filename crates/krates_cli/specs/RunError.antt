-- What the refusals of the crates below become, and what is printed of a refusal.
use Rattle.std.specs.Prelude.{◌≡◌, ◌++◌, Option, Some, codes}
use Rattle.krates_cm.specs.Document.{Text}
use Rattle.krates_cm.specs.declared.error.Error as cm
use Rattle.krates_cm.specs.declared.error.Error.TheVariants as cm_errors
use Rattle.krates_cm.specs.contracts.error.ErrorDisplay.TheImpl.{ghosts as cm_display}
use Rattle.krates_ids.specs.contracts.error.ErrorDisplay.TheImpl.{ghosts as build_display}
use Rattle.krates_ids.specs.declared.error.Error as build
use Rattle.krates_ids.specs.declared.error.Error.TheVariants as build_errors
use Rattle.krates_cli.specs.declared.run_error.RunError.{RunError}
use Rattle.krates_cli.specs.declared.run_error.RunError.TheVariants as errors

-- what a refusal of a text becomes: out of memory stays out of memory
abbrev pub ParseErrorBecomes : cm.Error → RunError → Type 0
ParseErrorBecomes cause (errors.Parse same) = (same ≡ cause) × (cause ≡ cm_errors.Memory → ⊥)
ParseErrorBecomes cause errors.Memory = cause ≡ cm_errors.Memory
ParseErrorBecomes cause _ = ⊥

-- what a refusal of a build becomes
abbrev pub BuildErrorBecomes : build.Error → RunError → Type 0
BuildErrorBecomes cause (errors.Build same) = (same ≡ cause) × (cause ≡ build_errors.Memory → ⊥)
BuildErrorBecomes cause errors.Memory = cause ≡ build_errors.Memory
BuildErrorBecomes cause _ = ⊥

-- What is printed of a refusal, where that is stated; of a text and of a build it is what the cause prints, where its crate states that.
abbrev pub run_error_text : RunError → Option Text
run_error_text errors.Read = Some (codes "read failed")
run_error_text errors.Utf8 = Some (codes "input is not UTF-8")
run_error_text (errors.Parse cause) = cm_display.output cause
run_error_text (errors.Build cause) = build_display.output cause
run_error_text errors.Write = Some (codes "write failed")
run_error_text errors.Memory = Some (codes "out of memory")
run_error_text (errors.NotKept krate) = Some (codes "not kept: " ++ krate.text)
