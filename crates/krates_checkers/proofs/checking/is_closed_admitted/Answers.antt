use Rattle.std.proofs.Common.{◌↔◌, IsTrue}
use Rattle.std.proofs.lemmas.Result.{IfOk-weaker}
use Rattle.krates_cm.specs.Document.{metadata_view}
use Rattle.krates_rules.specs.StepViews.{facts_view}
use Rattle.krates_document.specs.Ids.{ids_view}
use Rattle.krates_questions.specs.Lookup.{resolved_view}
use Rattle.krates_rules.specs.Derivation.{IsClosed}
use Rattle.krates_checkers.proofs.Checked.{answering}
use Rattle.krates_checkers.proofs.checking.is_closed_admitted.Goals as goal

pub returns : goal.returns
returns c =
    let m = metadata_view c.args.metadata.now in
    let r = resolved_view c.in_ok-document.document in
    IfOk-weaker c.is_closed.result _ _ (λ b told. answering m c.args.setting.now (ids_view c.args.ids.now) r (λ q. IsTrue b ↔ IsClosed q (facts_view c.args.facts.now)) c.requires c.in_ok-document.ensures told) c.is_closed.ensures
