use Rattle.std.proofs.Common.{◌≡◌, ◌↔◌, IsTrue, List, map, subst}
use Rattle.krates_cm.specs.Document.{Text, text_view}
use Rattle.krates_verdict.proofs.Words.{words_tell}
use Rattle.krates_verdict.proofs.subject.CertificateSubject.has_words.Goals as goal

pub returns : goal.returns
returns c =
    let claimed = c.args.claimed.now in
    subst (λ (words : List Text). IsTrue c.eq.result ↔ (map text_view claimed ≡ words)) c.words.ensures (words_tell claimed c.words.result.now c.eq.result c.eq.ensures)
