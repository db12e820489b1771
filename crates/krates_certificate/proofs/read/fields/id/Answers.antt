use Rattle.std.proofs.Common.{inr, refl}
use Rattle.krates_cm.specs.Document.{id_view}
use Rattle.krates_certificate.specs.CertificateRefusals.{IsOfMemory}
use Rattle.krates_certificate.proofs.IdLemmas.{unread, told_false}
use Rattle.krates_certificate.proofs.read.fields.id.Goals as goal

pub returns-else-is_of_memory : goal.returns-else-is_of_memory
returns-else-is_of_memory g c =
    let id = c.in_ok-id.id in
    let other = told_false c.is_of_memory.result (IsOfMemory c.in-Err.error) c.is_of_memory.ensures c.if-is_of_memory.false in
    inr (inr (id_view id, c.in_ok-id.ensures, unread id c.in-Err.error c.in-Err.ensures.refused other, refl))
