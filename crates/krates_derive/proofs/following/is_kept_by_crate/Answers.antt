use Rattle.std.proofs.lemmas.Result.{IfOk-weaker}
use Rattle.krates_questions.specs.Context.{document_of}
use Rattle.krates_rules.specs.Resolved.{id_of}
use Rattle.krates_derive.specs.FactRef.{edge_of_ref}
use Rattle.krates_derive.proofs.Rows.{through, required_row}
use Rattle.krates_derive.proofs.following.is_kept_by_crate.Goals as goal

pub returns : goal.returns
returns c =
    let row = required_row (document_of c.args.context.now) c.args.context.now.setting.now c.args.rule (id_of c.args.krate.now) (edge_of_ref c.args.edge.now) in
    let h = c.is_same_by.ensures.0 c.if-not-is_same_by.false in
    IfOk-weaker c.may_be_kept.result _ _ (λ b told. through (λ t. (h.0, h.1, told.0 t), λ w. told.1 w.2) row) c.may_be_kept.ensures
