use Rattle.std.proofs.Common.{true, false}
use Rattle.krates_questions.specs.Context.{document_of}
use Rattle.krates_rules.specs.Resolved.{id_of}
use Rattle.krates_derive.specs.FactRef.{edge_of_ref}
use Rattle.krates_derive.proofs.Rows.{through, toggled_row}
use Rattle.krates_derive.proofs.following.is_toggled.Goals as goal

pub returns-then-rule-eq4 : goal.returns-then-rule-eq4
returns-then-rule-eq4 c =
    let t = c.args.toggle.now in
    rw c.if-rule-eq4.true (through c.toggles_over.ensures (toggled_row (document_of c.args.context.now) c.args.context.now.setting.now false (id_of c.args.feature.now.krate.now) c.args.feature.now.name.now (edge_of_ref c.args.edge.now) (id_of t.by.now) (id_of t.krate.now) t.name.now))

pub returns-then-rule-eq7 : goal.returns-then-rule-eq7
returns-then-rule-eq7 c =
    let t = c.args.toggle.now in
    rw c.if-rule-eq7.true (through c.toggles_over-then-rule-eq7.ensures (toggled_row (document_of c.args.context.now) c.args.context.now.setting.now true (id_of c.args.feature.now.krate.now) c.args.feature.now.name.now (edge_of_ref c.args.edge.now) (id_of t.by.now) (id_of t.krate.now) t.name.now))
