use Rattle.std.proofs.Common.{None, refl}
use Rattle.std.proofs.lemmas.Result.{IfErr-weaker, on_ok_weaker}
use Rattle.krates_cm.specs.Document.{metadata_view}
use Rattle.krates_checkers.specs.CheckRefusals.{IsCheckRefused}
use Rattle.krates_rules.specs.StepViews.{steps_view}
use Rattle.krates_rules.specs.Checks.{IsAcceptedFor}
use Rattle.krates_checkers.proofs.Through.{refused_through, sees}
use Rattle.krates_checkers.proofs.checking.check.Goals as goal

pub returns-in-None-clause-accepted : goal.returns-in-None-clause-accepted
returns-in-None-clause-accepted c =
    let m = metadata_view c.args.metadata.now in
    rw c.in-None.is (on_ok_weaker c.check_seen.result (λ h. sees None m m (λ m. IsAcceptedFor m c.args.setting.now (steps_view c.args.derivation.now.steps.items)) refl h) c.check_seen.ensures.accepted)

pub returns-in-None-clause-refused : goal.returns-in-None-clause-refused
returns-in-None-clause-refused c =
    let m = metadata_view c.args.metadata.now in
    rw c.in-None.is (IfErr-weaker c.check_seen.result _ _ (λ e h. refused_through None m m (λ m. IsCheckRefused m c.args.setting.now (steps_view c.args.derivation.now.steps.items)) e refl h) c.check_seen.ensures.refused)

pub returns-in-Some-clause-accepted : goal.returns-in-Some-clause-accepted
returns-in-Some-clause-accepted c = rw c.in-Some.is c.check_corrected.ensures.accepted

pub returns-in-Some-clause-refused : goal.returns-in-Some-clause-refused
returns-in-Some-clause-refused c = rw c.in-Some.is c.check_corrected.ensures.refused
