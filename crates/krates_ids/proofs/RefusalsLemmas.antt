-- What each result of reading an id means.
use Rattle.std.proofs.Common.{refl, ap}
use Rattle.std.specs.Prelude.{Ok, Err}
use Rattle.krates_cm.specs.Document.{id_view}
use Rattle.krates_cm.specs.declared.package_id.PackageId.{PackageId}
use Rattle.krates_ids.specs.Identity.{Identity, Reads, NeedsDecoding, Fault, IsFault}
use Rattle.krates_ids.specs.IdRefusals.{IsRefusal, Converts}
use Rattle.krates_ids.specs.declared.id_error.IdError.{IdError}
use Rattle.krates_ids.specs.declared.id_error.IdError.TheVariants.{Memory}
use Rattle.krates_ids.proofs.IdentityLemmas.{Reads-once, Reads-no_fault}

pub Converts-reads : (id : PackageId) (kid : Identity) → Reads (id_view id) kid → Converts id (Ok kid)
Converts-reads id kid reads =
    record { read = reads; refused = tt; without_memory = λ other reads' _. ap Ok (Reads-once (id_view id) kid other reads reads') }

pub Converts-fault : (id : PackageId) (error : IdError) (fault : Fault) → IsFault (id_view id) fault → IsRefusal id error → Converts id (Err error)
Converts-fault id error fault is refusal =
    record { read = tt; refused = refusal; without_memory = λ kid reads _. absurd (Reads-no_fault (id_view id) kid fault reads is) }

pub Converts-memory : (id : PackageId) → NeedsDecoding (id_view id) → Converts id (Err (Memory id))
Converts-memory id needs = record { read = tt; refused = (refl, needs); without_memory = λ kid reads none. absurd (none needs) }
