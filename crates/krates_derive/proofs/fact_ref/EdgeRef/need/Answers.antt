use Rattle.std.proofs.Common.{subst, IfOk}
use Rattle.krates_cm.specs.Document.{DepKindInfoModel}
use Rattle.krates_questions.specs.Context.{document_of}
use Rattle.krates_questions.specs.Availability.{TellsNeed}
use Rattle.krates_rules.specs.Questions.{edge_between}
use Rattle.krates_rules.specs.Resolved.{id_of}
use Rattle.krates_derive.proofs.fact_ref.EdgeRef.need.Goals as goal

pub returns : goal.returns
returns c =
    let e = c.args.self.now in
    subst (λ (k : DepKindInfoModel). IfOk c.need.result (TellsNeed (document_of c.args.context.now) c.args.context.now.setting.now (edge_between (id_of e.parent.now) (id_of e.child.now) k))) c.in_ok-info.ensures c.need.ensures
