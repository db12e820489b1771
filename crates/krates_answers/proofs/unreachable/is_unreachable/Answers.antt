use Rattle.krates_cm.specs.Document.{metadata_view}
use Rattle.krates_rules.specs.Checks.{IsClosedFor}
use Rattle.krates_rules.specs.Resolved.{id_of}
use Rattle.krates_rules.specs.StepViews.{facts_view}
use Rattle.krates_answers.specs.Unreachable.{LackCrate}
use Rattle.krates_answers.proofs.UnreachableLemmas.{as_it_is, unreachable}
use Rattle.krates_answers.proofs.unreachable.is_unreachable.Goals as goal

pub returns-clause-told : goal.returns-clause-told
returns-clause-told g c =
    let m = metadata_view c.args.metadata.now in
    let s = c.args.builder.now.setting in
    let facts = facts_view c.args.facts.now in
    let id = id_of c.args.kid.now in
    let closed = as_it_is m (λ x. IsClosedFor x s facts) c.in_ok-check_closed.ensures.closed in
    let lack : LackCrate facts id = λ h. absurd (cc (c.has_crate.ensures.1 h, c.if-has_crate.false)) in
    record { closed = closed; lack = lack; unreachable = unreachable c.closed_lists.ensures m s facts id closed lack }
