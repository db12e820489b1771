-- What a build gives of a document that cargo may have written.
use Rattle.std.proofs.Common.{Option, Result, Ok, Err, IfOk, IfErr, OnOk, inl, inr, refl}
use Rattle.krates_cm.specs.Document.{metadata_view}
use Rattle.krates_cm.specs.declared.error.Error as cm
use Rattle.krates_cm.specs.declared.metadata.Metadata.{Metadata}
use Rattle.krates_cargo.specs.Running.{IsSomeAnswer}
use Rattle.krates_ids.specs.declared.error.Error.{Error}
use Rattle.krates_ids.specs.declared.error.Error.TheVariants as errors
use Rattle.krates_ids.specs.MetadataError.{MetadataErrorBecomes}
use Rattle.krates_rules.specs.NamedIds.{NamesReadIds}
use Rattle.krates_rules.specs.Setting.{SettingModel}
use Rattle.krates.specs.Build.{BuildRefusal, IsResolvable}
use Rattle.krates.specs.Cargo.{CargoBuildRefusal, IsWritten, NamesWrittenIds}
use Rattle.krates.specs.Indexed.{Answering}

pub built_written : {A E : Type 0} (P : Metadata → A → Type 0) (m : Metadata) (r : Result A E) → IsSomeAnswer (metadata_view m) → OnOk r (IsResolvable (metadata_view m)) → IfOk r (P m)
    → IfOk r (λ a. IsWritten (λ m. IsResolvable (metadata_view m) × P m a))
built_written P m (Ok a) written resolvable holds = record { metadata = m; written = written; holds = (resolvable, holds) }
built_written P m (Err e) written resolvable holds = holds

refused : {S : Type 0} (may_answer : Answering S) (index : Option S) (m : Metadata) (s : SettingModel) (e : Error) → IsSomeAnswer (metadata_view m) → BuildRefusal may_answer index m s e
    → CargoBuildRefusal may_answer index s e
refused may_answer index m s (errors.Metadata cause) written h = elim h [ inl given ↦ absurd given | inr seen ↦ absurd seen.1.holds.holds ]
refused may_answer index m s errors.Memory written h = tt
refused may_answer index m s errors.NoResolveGraph written h = record { metadata = m; written = written; holds = h }
refused may_answer index m s (errors.InvalidPkgSpec what) written h = record { metadata = m; written = written; holds = h }
refused may_answer index m s errors.NoRootKrates written h = record { metadata = m; written = written; holds = h }
refused may_answer index m s (errors.InvalidId id) written h = record { metadata = m; written = written; holds = h }
refused may_answer index m s (errors.Doubled id) written h = record { metadata = m; written = written; holds = h }
refused may_answer index m s (errors.Lost what) written h = record { metadata = m; written = written; holds = h }
refused may_answer index m s errors.TooMany written h = record { metadata = m; written = written; holds = h }

pub refused_written : {A S : Type 0} (may_answer : Answering S) (index : Option S) (m : Metadata) (s : SettingModel) (r : Result A Error) → IsSomeAnswer (metadata_view m)
    → IfErr r (BuildRefusal may_answer index m s) → IfErr r (CargoBuildRefusal may_answer index s)
refused_written may_answer index m s (Ok a) written h = h
refused_written may_answer index m s (Err e) written h = refused may_answer index m s e written h

-- where there is no document, no id is named
pub none_named : (cause : cm.Error) (e : Error) → MetadataErrorBecomes cause e → NamesWrittenIds e
none_named cause (errors.Metadata same) h = inl refl
none_named cause errors.Memory h = inl refl
none_named cause errors.NoResolveGraph h = absurd h
none_named cause (errors.InvalidPkgSpec what) h = absurd h
none_named cause errors.NoRootKrates h = absurd h
none_named cause (errors.InvalidId id) h = absurd h
none_named cause (errors.Doubled id) h = absurd h
none_named cause (errors.Lost what) h = absurd h
none_named cause errors.TooMany h = absurd h

pub named_written : {A : Type 0} (m : Metadata) (r : Result A Error) → IsSomeAnswer (metadata_view m) → IfErr r (NamesReadIds (metadata_view m)) → IfErr r NamesWrittenIds
named_written m (Ok a) written h = h
named_written m (Err e) written h = inr (record { metadata = m; written = written; holds = h })
