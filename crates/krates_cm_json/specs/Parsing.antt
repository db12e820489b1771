-- When a text isn't a document.
use Rattle.std.specs.Prelude.{◌≡◌, [], Some, None, ⊤}
use Rattle.serde_json.specs.Data.{Data}
use Rattle.serde_json.specs.Errors.{IsMemory}
use Rattle.serde_json.specs.Read.{read}
use Rattle.krates_cm.specs.Document.{Text, MetadataModel}
use Rattle.krates_cm.specs.declared.error.Error.{Error}
use Rattle.krates_cm.specs.declared.error.Error.TheVariants as errors
use Rattle.krates_cm_json.specs.Faults.{fault_of}
use Rattle.krates_cm_json.specs.Tables.{metadata}

-- The text is JSON, and this is what the tables read from it.
abbrev pub IsDocument : Text → MetadataModel → Type 0
IsDocument text m = (d : Data) × (read text ≡ Some d) × ((metadata [] d).value ≡ Some m)

-- The text isn't JSON, or its data isn't metadata.
abbrev pub IsNoDocument : Text → Type 0
IsNoDocument text = (m : MetadataModel) → IsDocument text m → ⊥

-- The text isn't JSON, or its data isn't metadata, by a fault that is true of it. Memory may always run out, and is then the
-- refusal itself: no JSON error is about memory, and no fault of a value is.
abbrev pub IsRefusal : Text → Error → Type 0
IsRefusal text (errors.Json e) = (read text ≡ None) × (IsMemory e → ⊥)
IsRefusal text (errors.Value e) = (d : Data) × (read text ≡ Some d) × ((metadata [] d).value ≡ None) × (metadata [] d).IsFault (fault_of e)
IsRefusal text errors.Memory = ⊤
IsRefusal text _ = ⊥
