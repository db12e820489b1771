-- A build of the document that cargo writes.
use Rattle.std.specs.Prelude.{◌≡◌, ◌⊎◌, [], Option, ⊤}
use Rattle.krates_cm.specs.Document.{metadata_view}
use Rattle.krates_cm.specs.declared.error.Error.TheVariants as cm_errors
use Rattle.krates_cm.specs.declared.metadata.Metadata.{Metadata}
use Rattle.krates_cargo.specs.Running.{IsSomeAnswer, IsUnrun}
use Rattle.krates_ids.specs.declared.error.Error.{Error}
use Rattle.krates_ids.specs.declared.error.Error.TheVariants as errors
use Rattle.krates_rules.specs.NamedIds.{NamesReadIds, named_ids}
use Rattle.krates_rules.specs.Setting.{SettingModel}
use Rattle.krates.specs.Build.{BuildRefusal}
use Rattle.krates.specs.Indexed.{Answering}

-- some output of a cargo that succeeded has this document, and this holds of it
pub record IsWritten (P : Metadata → Type 0) : Type 0 where
  pub metadata : Metadata
  pub written : IsSomeAnswer (metadata_view metadata)
  pub holds : P metadata

-- Why nothing is built of a run of cargo: it has no document, for a reason other than running out of memory, or nothing is built from a
-- document that it may have written. Memory may always run out.
abbrev pub CargoBuildRefusal : {S : Type 0} → Answering S → Option S → SettingModel → Error → Type 0
CargoBuildRefusal may_answer index s (errors.Metadata cause) = IsUnrun cause × (cause ≡ cm_errors.Memory → ⊥)
CargoBuildRefusal may_answer index s errors.Memory = ⊤
CargoBuildRefusal may_answer index s e = IsWritten (λ m. BuildRefusal may_answer index m s e)

-- a refusal names no id, or each that it names is read of a document that cargo may have written
abbrev pub NamesWrittenIds : Error → Type 0
NamesWrittenIds e = (named_ids e ≡ []) ⊎ IsWritten (λ m. NamesReadIds (metadata_view m) e)
