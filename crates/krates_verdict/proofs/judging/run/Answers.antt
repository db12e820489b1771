use Rattle.std.proofs.Common.{subst}
use Rattle.std.proofs.lemmas.Result.{err_from_is_err_and}
use Rattle.krates_cm.specs.Document.{Text}
use Rattle.krates_verdict.specs.VerdictRunning.{IsUnheld}
use Rattle.krates_verdict.specs.Subject.{subject_view}
use Rattle.krates_verdict.proofs.RunLemmas.{run_refused, run_unread}
use Rattle.krates_verdict.proofs.judging.run.Goals as goal

pub returns-in_err-bytes-clause-refused : goal.returns-in_err-bytes-clause-refused
returns-in_err-bytes-clause-refused g c =
    let p = err_from_is_err_and c.from_residual.result c.from_residual.ensures.1 in
    rw p.1 (run_unread (subject_view c.args.subject.now) (g.R.Read.remaining c.args.input.now) c.in_err-bytes.field-0.0 p.0 c.in_err-bytes.ensures.refused p.2)

pub returns-in_err-verdict-clause-refused : goal.returns-in_err-verdict-clause-refused
returns-in_err-verdict-clause-refused g c =
    let p = err_from_is_err_and c.from_residual-in_err-verdict.result c.from_residual-in_err-verdict.ensures.1 in
    let unheld = subst (λ (bytes : Text). IsUnheld (subject_view c.args.subject.now) bytes c.in_err-verdict.field-0.0) c.deref.ensures.value c.in_err-verdict.ensures.refused in
    rw p.1 (run_refused (subject_view c.args.subject.now) (g.R.Read.remaining c.args.input.now) c.in_ok-bytes.bytes.items c.in_err-verdict.field-0.0 p.0 c.in_ok-bytes.ensures.whole unheld p.2)
