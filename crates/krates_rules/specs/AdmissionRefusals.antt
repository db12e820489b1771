-- When a document is refused before it is resolved.
use Rattle.std.specs.Prelude.{◌≡◌, None, string_bytes, ⊤}
use Rattle.krates_cm.specs.Document.{MetadataModel}
use Rattle.krates_ids.specs.declared.error.Error.{Error}
use Rattle.krates_ids.specs.declared.error.Error.TheVariants as errors
use Rattle.krates_rules.specs.Admission.{IsInvalidId, IsDoubled}
use Rattle.krates_rules.specs.Resolved.{id_of, HasGraphWith}

-- The cause is true of the document; memory may always run out.
abbrev pub AdmissionRefusal : MetadataModel → Error → Type 0
AdmissionRefusal m errors.NoResolveGraph = m.resolve ≡ None
AdmissionRefusal m (errors.InvalidId t) = HasGraphWith m (λ g. IsInvalidId m g (string_bytes t))
AdmissionRefusal m (errors.Doubled kid) = HasGraphWith m (λ g. IsDoubled m g (id_of kid))
AdmissionRefusal m errors.Memory = ⊤
AdmissionRefusal m _ = ⊥
