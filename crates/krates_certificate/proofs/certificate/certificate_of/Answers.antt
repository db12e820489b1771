use Rattle.krates_certificate.specs.CertificateRefusals.{IsMemory, fault_of}
use Rattle.krates_certificate.proofs.IdLemmas.{told_false}
use Rattle.krates_certificate.proofs.TextLemmas.{none_read}
use Rattle.krates_certificate.proofs.certificate.certificate_of.Goals as goal

pub returns-else-is_memory : goal.returns-else-is_memory
returns-else-is_memory g c =
    let e = c.in-Err.error in
    none_read (g.J.JsonRef.meaning c.args.value) e c.in-Err.ensures (told_false c.is_memory.result (IsMemory (fault_of e)) c.is_memory.ensures c.if-is_memory.false)
