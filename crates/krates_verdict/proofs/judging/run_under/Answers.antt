use Rattle.krates_cm.specs.Document.{metadata_view}
use Rattle.krates_verdict.specs.Subject.{SubjectModel, judged_under}
use Rattle.krates_verdict.specs.VerdictRunning.{WritesVerdict}
use Rattle.krates_verdict.proofs.RunLemmas.{chosen_refused, chosen_written, stated_subject}
use Rattle.krates_verdict.proofs.judging.run_under.Goals as goal

pub returns-clause-written : goal.returns-clause-written
returns-clause-written g c =
    let choice = c.args.choice.now in
    let m = metadata_view c.args.metadata.now in
    let s = judged_under m c.in_ok-stated.stated in
    chosen_written choice m s (λ (s : SubjectModel). WritesVerdict s (g.R.Read.remaining c.args.input.now) (g.W.Write.contents c.args.output.now) (g.W.Write.contents c.run.new.output)) c.run.result
    (stated_subject choice m c.in_ok-stated.stated c.in_ok-stated.ensures) c.run.ensures.written

pub returns-clause-refused : goal.returns-clause-refused
returns-clause-refused g c =
    let choice = c.args.choice.now in
    let m = metadata_view c.args.metadata.now in
    let s = judged_under m c.in_ok-stated.stated in
    chosen_refused choice m s (g.R.Read.remaining c.args.input.now) c.run.result (stated_subject choice m c.in_ok-stated.stated c.in_ok-stated.ensures) c.run.ensures.refused
