use Rattle.std.proofs.lemmas.Result.{IfOk-weaker}
use Rattle.krates_questions.specs.Context.{document_of}
use Rattle.krates_rules.specs.Resolved.{id_of}
use Rattle.krates_derive.specs.FactRef.{edge_of_ref}
use Rattle.krates_derive.proofs.Rows.{through, declared_row}
use Rattle.krates_derive.proofs.following.is_declared.Goals as goal

pub returns-then-not-is_child : goal.returns-then-not-is_child
returns-then-not-is_child c =
    let row = declared_row (document_of c.args.context.now) c.args.context.now.setting.now c.args.rule (edge_of_ref c.args.edge.now) (id_of c.args.feature.now.krate.now) c.args.feature.now.name.now in
    (λ t. absurd cc, λ r. absurd (let w = row.1 r in cc (c.is_child.ensures.1 (w.0, w.1, w.3), c.if-not-is_child.true)))

pub returns : goal.returns
returns c =
    let row = declared_row (document_of c.args.context.now) c.args.context.now.setting.now c.args.rule (edge_of_ref c.args.edge.now) (id_of c.args.feature.now.krate.now) c.args.feature.now.name.now in
    let h = c.is_child.ensures.0 c.if-not-is_child.false in
    IfOk-weaker c.asks_for.result _ _ (λ b told. through (λ t. (h.0, h.1, told.0 t, h.2), λ w. told.1 w.2) row) c.asks_for.ensures
