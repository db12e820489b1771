-- What may be wrong with a JSON value that isn't read.
use Rattle.std.specs.Prelude.{ℕ, List}
use Rattle.krates_cm.specs.declared.read_error.ReadError.{ReadError}
use Rattle.krates_cm.specs.declared.read_error.ReadError.TheVariants as errors

-- A refusal, with its key as a text wherever that lies in memory.
pub data Fault : Type 0 where
  missing : List ℕ → Fault
  wrong_type : List ℕ → Fault
  bad_version : Fault
  bad_requirement : Fault
  bad_dependency_kind : Fault
  bad_target_kind : Fault
  bad_crate_type : Fault
  bad_edition : Fault
  bad_rust_version : Fault
  out_of_memory : Fault

abbrev pub fault_of : ReadError → Fault
fault_of (errors.Missing key) = missing key.now
fault_of (errors.WrongType key) = wrong_type key.now
fault_of errors.BadVersion = bad_version
fault_of errors.BadReq = bad_requirement
fault_of errors.BadKind = bad_dependency_kind
fault_of errors.BadTargetKind = bad_target_kind
fault_of errors.BadCrateType = bad_crate_type
fault_of errors.BadEdition = bad_edition
fault_of errors.BadRustVersion = bad_rust_version
fault_of errors.Memory = out_of_memory
