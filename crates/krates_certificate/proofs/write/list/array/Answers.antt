use Rattle.std.proofs.Common.{arith}
use Rattle.serde_json.proofs.Views.{view-Array}
use Rattle.krates_cm_json.proofs.WrittenLists.{written_next, written_all}
use Rattle.krates_certificate.proofs.write.list.array.Goals as goal

pub loop-item-preserved : goal.loop-item-preserved
loop-item-preserved g c =
    let l = c.loop-item in
    rw c.in_ok-push.ensures.items (written_next g.T.CertificatePart.Writes (λ x. g.T.CertificatePart.view x) c.deref-item-items.result.now l.item-index c.item-item.result l.values.items c.in_ok-to_value.field-0 (omega arith) c.item-item.is c.in_ok-to_value.ensures l.invariant)

pub returns : goal.returns
returns g c =
    let all = written_all g.T.CertificatePart.Writes (λ x. g.T.CertificatePart.view x) c.deref-item-items.result.now c.loop-item.item-index c.loop-item.values.items (omega arith) c.loop-item.invariant in
    rw view-Array (rw (← c.deref-item-items.ensures.value) all)
