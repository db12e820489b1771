-- What the causes of a refusal become.
use Rattle.std.specs.Prelude.{◌≡◌}
use Rattle.serde_json.specs.Errors.{IsMemory}
use Rattle.serde_json.specs.declared.error.Error as json
use Rattle.krates_cm.specs.declared.error.Error.{Error}
use Rattle.krates_cm.specs.declared.error.Error.TheVariants as errors
use Rattle.krates_cm.specs.declared.read_error.ReadError.{ReadError}
use Rattle.krates_cm.specs.declared.read_error.ReadError.TheVariants as read_errors

-- what a JSON error becomes
abbrev pub JsonBecomes : json.Error → Error → Type 0
JsonBecomes e (errors.Json same) = (same ≡ e) × (IsMemory e → ⊥)
JsonBecomes e errors.Memory = IsMemory e
JsonBecomes e _ = ⊥

-- what a refusal of a value becomes
abbrev pub ReadErrorBecomes : ReadError → Error → Type 0
ReadErrorBecomes e (errors.Value same) = (same ≡ e) × (e ≡ read_errors.Memory → ⊥)
ReadErrorBecomes e errors.Memory = e ≡ read_errors.Memory
ReadErrorBecomes e _ = ⊥
