use Rattle.std.proofs.Common.{Some}
use Rattle.std.proofs.lemmas.Result.{IfErr-weaker, on_ok_weaker}
use Rattle.krates_cm.specs.Document.{metadata_view}
use Rattle.krates_checkers.specs.CheckRefusals.{IsCheckRefused}
use Rattle.krates_rules.specs.StepViews.{steps_view}
use Rattle.krates_rules.specs.Checks.{IsAcceptedFor}
use Rattle.krates_checkers.proofs.Through.{refused_through, sees}
use Rattle.krates_ids.specs.Correction.{index_view}
use Rattle.krates_checkers.proofs.checking.check_corrected.Goals as goal

pub returns-clause-accepted : goal.returns-clause-accepted
returns-clause-accepted c =
    let m = metadata_view c.args.metadata.now in
    on_ok_weaker c.check_seen-told.result (λ h. sees (Some (index_view c.args.index.now.answer)) m (metadata_view c.in_ok-seen.seen) (λ m. IsAcceptedFor m c.args.setting.now (steps_view c.args.derivation.now.steps.items)) c.in_ok-seen.ensures h) c.check_seen-told.ensures.accepted

pub returns-clause-refused : goal.returns-clause-refused
returns-clause-refused c =
    let m = metadata_view c.args.metadata.now in
    IfErr-weaker c.check_seen-told.result _ _ (λ e h. refused_through (Some (index_view c.args.index.now.answer)) m (metadata_view c.in_ok-seen.seen) (λ m. IsCheckRefused m c.args.setting.now (steps_view c.args.derivation.now.steps.items)) e c.in_ok-seen.ensures h) c.check_seen-told.ensures.refused
