use Rattle.std.proofs.Common.{map}
use Rattle.std.proofs.lemmas.Result.{IfOk-weaker}
use Rattle.krates_cm.specs.Document.{text_view}
use Rattle.krates_derive.specs.Giving.{document_in, facts_in, setting_in}
use Rattle.krates_rules.specs.Resolved.{id_of}
use Rattle.krates_checkers.proofs.ClosedLists.{references_among}
use Rattle.krates_checkers.proofs.closed.is_feature_in.Goals as goal

pub returns : goal.returns
returns c =
    let values = map text_view c.values.result.now in
    let v = references_among (document_in c.args.check.now) (setting_in c.args.check.now) (facts_in c.args.check.now) (id_of c.args.krate.now) c.args.feature.now values c.values.ensures.references in
    IfOk-weaker c.are_references_in.result _ _ (λ b told. (λ t. record { crate = c.has_crate.ensures.0 c.if-not-has_crate.false; given = v.0 (told.0 t) }, λ h. told.1 (v.1 h.given))) c.are_references_in.ensures
