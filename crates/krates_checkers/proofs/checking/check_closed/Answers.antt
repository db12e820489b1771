use Rattle.std.proofs.Common.{None, refl}
use Rattle.std.proofs.lemmas.Result.{IfErr-weaker, on_ok_weaker}
use Rattle.krates_cm.specs.Document.{metadata_view}
use Rattle.krates_checkers.specs.CheckRefusals.{IsClosedRefused}
use Rattle.krates_rules.specs.StepViews.{facts_view}
use Rattle.krates_rules.specs.Checks.{IsClosedFor}
use Rattle.krates_checkers.proofs.Through.{refused_through, sees}
use Rattle.krates_checkers.proofs.checking.check_closed.Goals as goal

pub returns-in-None-clause-closed : goal.returns-in-None-clause-closed
returns-in-None-clause-closed c =
    let m = metadata_view c.args.metadata.now in
    rw c.in-None.is (on_ok_weaker c.check_closed_seen.result (λ h. sees None m m (λ m. IsClosedFor m c.args.setting.now (facts_view c.args.facts.now)) refl h) c.check_closed_seen.ensures.closed)

pub returns-in-None-clause-refused : goal.returns-in-None-clause-refused
returns-in-None-clause-refused c =
    let m = metadata_view c.args.metadata.now in
    rw c.in-None.is (IfErr-weaker c.check_closed_seen.result _ _ (λ e h. refused_through None m m (λ m. IsClosedRefused m c.args.setting.now (facts_view c.args.facts.now)) e refl h) c.check_closed_seen.ensures.refused)

pub returns-in-Some-clause-closed : goal.returns-in-Some-clause-closed
returns-in-Some-clause-closed c = rw c.in-Some.is c.check_closed_corrected.ensures.closed

pub returns-in-Some-clause-refused : goal.returns-in-Some-clause-refused
returns-in-Some-clause-refused c = rw c.in-Some.is c.check_closed_corrected.ensures.refused
