use Rattle.std.proofs.Common.{Some}
use Rattle.std.proofs.lemmas.Result.{IfErr-weaker, on_ok_weaker}
use Rattle.krates_cm.specs.Document.{metadata_view}
use Rattle.krates_checkers.specs.CheckRefusals.{IsClosedRefused}
use Rattle.krates_rules.specs.StepViews.{facts_view}
use Rattle.krates_rules.specs.Checks.{IsClosedFor}
use Rattle.krates_checkers.proofs.Through.{refused_through, sees}
use Rattle.krates_ids.specs.Correction.{index_view}
use Rattle.krates_checkers.proofs.checking.check_closed_corrected.Goals as goal

pub returns-clause-closed : goal.returns-clause-closed
returns-clause-closed c =
    let m = metadata_view c.args.metadata.now in
    on_ok_weaker c.check_closed_seen-told.result (λ h. sees (Some (index_view c.args.index.now.answer)) m (metadata_view c.in_ok-seen.seen) (λ m. IsClosedFor m c.args.setting.now (facts_view c.args.facts.now)) c.in_ok-seen.ensures h) c.check_closed_seen-told.ensures.closed

pub returns-clause-refused : goal.returns-clause-refused
returns-clause-refused c =
    let m = metadata_view c.args.metadata.now in
    IfErr-weaker c.check_closed_seen-told.result _ _ (λ e h. refused_through (Some (index_view c.args.index.now.answer)) m (metadata_view c.in_ok-seen.seen) (λ m. IsClosedRefused m c.args.setting.now (facts_view c.args.facts.now)) e c.in_ok-seen.ensures h) c.check_closed_seen-told.ensures.refused
