use Rattle.std.proofs.Common.{IfOk, Result, String, Global, refl, string_bytes, subst, sym}
use Rattle.krates_cm.specs.Document.{Text}
use Rattle.krates_foreign.specs.Handing.{IsHanded, answered}
use Rattle.krates_foreign.specs.declared.refusal.CallRefusal.{CallRefusal}
use Rattle.krates_foreign.specs.declared.status.Status.TheVariants as statuses
use Rattle.krates_foreign.proofs.handing.hand_result.Goals as goal

pub returns-in-Ok-clause-told : goal.returns-in-Ok-clause-told
returns-in-Ok-clause-told c =
    let handed = subst (λ (t : Text). IsHanded statuses.Answered t c.hand.result c.args.room.now c.hand.new.room) c.as_bytes.ensures.value c.hand.ensures in
    (statuses.Answered, string_bytes c.in-Ok.text, answered (c.in-Ok.text, c.in-Ok.is, refl), handed)

pub returns-in-Ok-clause-answered : goal.returns-in-Ok-clause-answered
returns-in-Ok-clause-answered c =
    let handed = subst (λ (t : Text). IsHanded statuses.Answered t c.hand.result c.args.room.now c.hand.new.room) c.as_bytes.ensures.value c.hand.ensures in
    subst (λ (told : Result (String Global) CallRefusal). IfOk told (λ text. IsHanded statuses.Answered (string_bytes text) c.hand.result c.args.room.now c.hand.new.room)) (sym c.in-Ok.is) handed
