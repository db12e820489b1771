use Rattle.std.proofs.lemmas.Result.{IfOk-weaker}
use Rattle.krates_questions.specs.Context.{document_of}
use Rattle.krates_rules.specs.Resolved.{id_of}
use Rattle.krates_derive.specs.FactRef.{edge_of_ref}
use Rattle.krates_derive.proofs.Rows.{through, asked_row}
use Rattle.krates_derive.proofs.following.is_kept_by_feature.Goals as goal

pub returns-then-not-is_asked : goal.returns-then-not-is_asked
returns-then-not-is_asked c =
    let row = asked_row (document_of c.args.context.now) c.args.context.now.setting.now c.args.rule (id_of c.args.feature.now.krate.now) c.args.feature.now.name.now (edge_of_ref c.args.edge.now) in
    (λ t. absurd cc, λ r. absurd (let w = row.1 r in cc (c.is_asked.ensures.1 (w.0, w.1, w.2), c.if-not-is_asked.true)))

pub returns : goal.returns
returns c =
    let row = asked_row (document_of c.args.context.now) c.args.context.now.setting.now c.args.rule (id_of c.args.feature.now.krate.now) c.args.feature.now.name.now (edge_of_ref c.args.edge.now) in
    let h = c.is_asked.ensures.0 c.if-not-is_asked.false in
    IfOk-weaker c.may_be_kept.result _ _ (λ b told. through (λ t. (h.0, h.1, h.2, told.0 t), λ w. told.1 w.3) row) c.may_be_kept.ensures
