use Rattle.krates_cm.specs.Document.{metadata_view}
use Rattle.krates_verdict.proofs.RunLemmas.{stated_subject}
use Rattle.krates_verdict.proofs.subject.CertificateSubject.agrees.Goals as goal

pub returns : goal.returns
returns c =
    let s = c.args.self.now in
    let choice = c.agrees.ensures in
    (choice.0, stated_subject choice.0 (metadata_view s.metadata.now) s.stated.now choice.1)
