-- Why a certificate isn't read.
use Rattle.std.specs.Prelude.{◌≡◌, ◌⊎◌, ⊤, Result, Ok, Err}
use Rattle.serde_json.specs.Errors as json_errors
use Rattle.serde_json.specs.declared.error.Error as json
use Rattle.krates_cm.specs.Document.{Text}
use Rattle.krates_cm.specs.declared.read_error.ReadError.TheVariants as read_errors
use Rattle.krates_cm_json.specs.Faults as document
use Rattle.krates_ids.specs.declared.id_error.IdError.{IdError}
use Rattle.krates_ids.specs.declared.id_error.IdError.TheVariants as id_errors
use Rattle.krates_certificate.specs.declared.certificate_error.CertificateError.{CertificateError}
use Rattle.krates_certificate.specs.declared.certificate_error.CertificateError.TheVariants as errors

-- a refusal, with its key as a text wherever that lies in memory
pub data Fault : Type 0 where
  not_json : Fault
  read : (fault : document.Fault) → Fault
  bad_id : (key : Text) → Fault
  unknown_name : (key : Text) → Fault
  too_large : (key : Text) → Fault

abbrev pub fault_of : CertificateError → Fault
fault_of (errors.NotJson line column) = not_json
fault_of (errors.Read e) = read (document.fault_of e)
fault_of (errors.BadId key) = bad_id key.now
fault_of (errors.UnknownName key) = unknown_name key.now
fault_of (errors.TooLarge key) = too_large key.now

-- memory ran out, which isn't a fault of any data
abbrev pub IsMemory : Fault → Type 0
IsMemory fault = fault ≡ read document.out_of_memory

-- what a JSON error becomes
abbrev pub JsonBecomes : json.Error → CertificateError → Type 0
JsonBecomes cause (errors.NotJson line column) = json_errors.IsMemory cause → ⊥
JsonBecomes cause (errors.Read read_errors.Memory) = json_errors.IsMemory cause
JsonBecomes cause _ = ⊥

-- an id wasn't read because memory ran out
abbrev pub IsOfMemory : IdError → Type 0
IsOfMemory (id_errors.Memory id) = ⊤
IsOfMemory _ = ⊥

-- A value that is returned has the property; a refusal names a true fault, unless memory ran out.
abbrev pub Gives : {X Y : Type 0} → (X → Y) → (Y → Type 0) → (Fault → Type 0) → Result X CertificateError → Type 0
Gives view Is IsFault (Ok x) = Is (view x)
Gives view Is IsFault (Err e) = IsMemory (fault_of e) ⊎ IsFault (fault_of e)
