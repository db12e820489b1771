use Rattle.std.proofs.Common.{[], refl, string_bytes, subst}
use Rattle.krates_cm.specs.Document.{Text}
use Rattle.krates_foreign.specs.Handing.{IsHanded, no_memory, refused}
use Rattle.krates_foreign.specs.Status.{status_of}
use Rattle.krates_foreign.specs.declared.status.Status.{Status}
use Rattle.krates_foreign.specs.declared.status.Status.TheVariants as statuses
use Rattle.krates_foreign.proofs.handing.hand_refusal.Goals as goal

pub returns-in-Ok : goal.returns-in-Ok
returns-in-Ok c =
    let status = status_of c.args.refusal.now in
    let with_status = subst (λ (s : Status). IsHanded s c.as_bytes.result.now c.hand.result c.args.room.now c.hand.new.room) c.status.ensures c.hand.ensures in
    let handed = subst (λ (t : Text). IsHanded status t c.hand.result c.args.room.now c.hand.new.room) c.as_bytes.ensures.value with_status in
    (status, string_bytes c.in-Ok.text, refused refl c.in-Ok.ensures, handed)

pub returns-in-Err : goal.returns-in-Err
returns-in-Err c = (statuses.Memory, [], no_memory, c.hand-in-Err.ensures)
