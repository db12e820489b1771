-- A document that is admitted isn't turned away.
use Rattle.std.proofs.Common.{◌≡◌, refl, sym, ◌∙◌, string_bytes}
use Rattle.std.proofs.lemmas.Option.{none-some}
use Rattle.krates_cm.specs.Document.{MetadataModel}
use Rattle.krates_ids.specs.declared.error.Error.{Error}
use Rattle.krates_ids.specs.declared.error.Error.TheVariants as errors
use Rattle.krates_rules.specs.Admission.{IdsModel, IsAdmitted, IsDoubled, IsInvalidId}
use Rattle.krates_rules.specs.AdmissionRefusals.{AdmissionRefusal}
use Rattle.krates_rules.specs.Checks.{IsTurnedAway}
use Rattle.krates_rules.specs.Resolved.{id_of}
use Rattle.krates_rules.proofs.AdmittedTexts.{none_invalid, of_graph}
use Rattle.krates_rules.proofs.Readings.{ReadsOnce}

refused_admitted : ReadsOnce → (m : MetadataModel) (ids : IdsModel) (error : Error) → IsAdmitted m ids → AdmissionRefusal m error → (error ≡ errors.Memory → ⊥) → ⊥
refused_admitted once m ids errors.NoResolveGraph admitted refused limited = none-some admitted.graph (sym refused ∙ admitted.has_graph)
refused_admitted once m ids (errors.InvalidId t) admitted refused limited =
    none_invalid once m admitted.graph ids (string_bytes t) admitted.read (of_graph m (λ g. IsInvalidId m g (string_bytes t)) admitted.graph admitted.has_graph refused)
refused_admitted once m ids (errors.Doubled kid) admitted refused limited =
    admitted.none_doubled (id_of kid) (of_graph m (λ g. IsDoubled m g (id_of kid)) admitted.graph admitted.has_graph refused)
refused_admitted once m ids errors.Memory admitted refused limited = limited refl
refused_admitted once m ids (errors.Lost _) admitted refused limited = refused
refused_admitted once m ids errors.NoRootKrates admitted refused limited = refused
refused_admitted once m ids errors.TooMany admitted refused limited = refused
refused_admitted once m ids (errors.Metadata _) admitted refused limited = refused
refused_admitted once m ids (errors.InvalidPkgSpec _) admitted refused limited = refused

pub not_turned_away : ReadsOnce → (m : MetadataModel) (ids : IdsModel) → IsAdmitted m ids → IsTurnedAway m → ⊥
not_turned_away once m ids admitted away = refused_admitted once m ids away.error admitted away.refused away.not_memory
