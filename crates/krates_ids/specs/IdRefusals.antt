-- What reading a package id returns: the id that its text reads as, or the id unchanged with a fault that is true.
use Rattle.std.specs.Prelude.{◌≡◌, Result, Ok, IfOk, IfErr}
use Rattle.krates_cm.specs.Document.{id_view}
use Rattle.krates_cm.specs.declared.package_id.PackageId.{PackageId}
use Rattle.krates_ids.specs.Identity.{Identity, Reads, NeedsDecoding, IsFault, no_opaque_form, no_stable_form, bad_escape}
use Rattle.krates_ids.specs.declared.id_error.IdError.{IdError}
use Rattle.krates_ids.specs.declared.id_error.IdError.TheVariants.{Opaque, Stable, Escape, Memory}

-- the id is given back unchanged, with a fault that is true of its text; memory is needed only to decode an escape
abbrev pub IsRefusal : PackageId → IdError → Type 0
IsRefusal id (Opaque back) = (back ≡ id) × IsFault (id_view id) no_opaque_form
IsRefusal id (Stable back) = (back ≡ id) × IsFault (id_view id) no_stable_form
IsRefusal id (Escape back) = (back ≡ id) × IsFault (id_view id) bad_escape
IsRefusal id (Memory back) = (back ≡ id) × NeedsDecoding (id_view id)

-- the result of reading an id: where its text reads and nothing has to be decoded, no memory is taken, so it succeeds
pub record Converts (id : PackageId) (result : Result Identity IdError) : Type 0 where
  pub read : IfOk result (λ kid. Reads (id_view id) kid)
  pub refused : IfErr result (λ error. IsRefusal id error)
  pub without_memory : (kid : Identity) → Reads (id_view id) kid → (NeedsDecoding (id_view id) → ⊥) → result ≡ Ok kid
