use Rattle.std.proofs.Common.{subst}
use Rattle.krates_cm.specs.Document.{DepKindInfoModel}
use Rattle.krates_questions.specs.Lookup.{resolved_view}
use Rattle.krates_questions.specs.Availability.{TellsDeclaration}
use Rattle.krates_rules.specs.Questions.{edge_between}
use Rattle.krates_rules.specs.Resolved.{id_of}
use Rattle.krates_derive.proofs.fact_ref.EdgeRef.declaration.Goals as goal

pub returns : goal.returns
returns c =
    let e = c.args.self.now in
    subst (λ (k : DepKindInfoModel). TellsDeclaration (resolved_view c.args.document.now) (edge_between (id_of e.parent.now) (id_of e.child.now) k) c.declaration.result) c.in_ok-info.ensures c.declaration.ensures
