use Rattle.std.proofs.Common.{subst}
use Rattle.std.proofs.lemmas.Result.{IfOk-weaker}
use Rattle.krates_cm.specs.Document.{MetadataModel, metadata_view}
use Rattle.krates_checkers.specs.CheckedDocument.{IsCorrectedBy}
use Rattle.krates_ids.specs.Correction.{index_view}
use Rattle.krates_checkers.proofs.Through.{corrected_by}
use Rattle.krates_checkers.proofs.corrected_copy.corrected_copy.Goals as goal

pub returns : goal.returns
returns c =
    IfOk-weaker c.corrected.result _ _ (λ seen h. subst (λ (m : MetadataModel). IsCorrectedBy (index_view c.args.index.now.answer) m (metadata_view seen)) c.in_ok-copy.ensures.cases (corrected_by c.args.index.now.answer _ seen h)) c.corrected.ensures
