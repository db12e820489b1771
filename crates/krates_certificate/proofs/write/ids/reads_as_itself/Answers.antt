use Rattle.std.proofs.Common.{◌≡◌, string_bytes, rules, subst, sym}
use Rattle.krates_cm.specs.Document.{Text}
use Rattle.krates_ids.specs.Identity.{Reads}
use Rattle.krates_certificate.specs.CertificateRefusals.{IsOfMemory}
use Rattle.krates_certificate.proofs.IdLemmas.{unread, told_false, never_true, same_read}
use Rattle.krates_certificate.proofs.write.ids.reads_as_itself.Goals as goal

pub returns-in-Ok : goal.returns-in-Ok
returns-in-Ok c =
    let id = c.args.id.now in
    let own : string_bytes c.in_ok-repr.repr ≡ id.text = search rules in
    let reads = subst (λ (t : Text). Reads t c.in-Ok.read) own c.in-Ok.ensures.read in
    rw c.eq.ensures (same_read id c.in-Ok.read reads)

pub returns-else-is_of_memory : goal.returns-else-is_of_memory
returns-else-is_of_memory c =
    let id = c.args.id.now in
    let own : string_bytes c.in_ok-repr.repr ≡ id.text = search rules in
    let other = told_false c.is_of_memory.result (IsOfMemory c.in-Err.error) c.is_of_memory.ensures c.if-is_of_memory.false in
    (λ h. absurd (never_true h), λ itself. absurd (unread (record { repr = c.in_ok-repr.repr }) c.in-Err.error c.in-Err.ensures.refused other itself.read (subst (λ (t : Text). Reads t itself.read) (sym own) itself.reads)))
