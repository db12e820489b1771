-- What a failure to get a document becomes: running out of memory stays that.
use Rattle.std.specs.Prelude.{◌≡◌}
use Rattle.krates_cm.specs.declared.error.Error as cm
use Rattle.krates_cm.specs.declared.error.Error.TheVariants as cm_errors
use Rattle.krates_ids.specs.declared.error.Error.{Error}
use Rattle.krates_ids.specs.declared.error.Error.TheVariants as errors

abbrev pub MetadataErrorBecomes : cm.Error → Error → Type 0
MetadataErrorBecomes cause (errors.Metadata same) = (same ≡ cause) × (cause ≡ cm_errors.Memory → ⊥)
MetadataErrorBecomes cause errors.Memory = cause ≡ cm_errors.Memory
MetadataErrorBecomes cause _ = ⊥
