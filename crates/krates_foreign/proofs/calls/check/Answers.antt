use Rattle.std.proofs.lemmas.Result.{IfErr-weaker, IfOk-weaker}
use Rattle.krates_cli.specs.Options.{options_view}
use Rattle.krates_foreign.proofs.CallLemmas.{check_refused}
use Rattle.krates_foreign.proofs.calls.check.Goals as goal

pub returns-clause-checked : goal.returns-clause-checked
returns-clause-checked c =
    let o = options_view c.in_ok-asked.asked in
    let m = c.in_ok-document.document in
    IfOk-weaker c.judged-told.result _ _ (λ line h. (o, c.in_ok-asked.ensures.asked, (m, c.in_ok-document.ensures.read, h))) c.judged-told.ensures.upholds

pub returns-clause-refused : goal.returns-clause-refused
returns-clause-refused c =
    let o = options_view c.in_ok-asked.asked in
    let m = c.in_ok-document.document in
    IfErr-weaker c.judged-told.result _ _ (check_refused c.args.document.now c.args.words.now c.args.certificate.now o m c.in_ok-asked.ensures.asked c.in_ok-document.ensures.read) c.judged-told.ensures.refused
