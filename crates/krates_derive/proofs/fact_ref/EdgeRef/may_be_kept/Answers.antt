use Rattle.std.proofs.Common.{subst}
use Rattle.krates_cm.specs.Document.{DependencyModel}
use Rattle.krates_questions.specs.Context.{document_of}
use Rattle.krates_questions.specs.Availability.{TellsNeed}
use Rattle.krates_derive.specs.FactRef.{edge_of_ref}
use Rattle.krates_derive.specs.Giving.{IsTaken}
use Rattle.krates_derive.proofs.fact_ref.EdgeRef.may_be_kept.Goals as goal

pub returns-then-not-is_taken : goal.returns-then-not-is_taken
returns-then-not-is_taken c =
    let h = subst (TellsNeed (document_of c.args.context.now) c.args.context.now.setting.now (edge_of_ref c.args.self.now)) c.in-Wanted.is c.in_ok-dependency.ensures in
    (λ t. absurd cc, λ k. absurd (let taken = subst (λ (d : DependencyModel). IsTaken c.args.asked d) (h.only k.dependency k.wanted) k.taken in cc (c.is_taken.ensures.1 taken, c.if-not-is_taken.true)))

pub returns-in-Undeclared : goal.returns-in-Undeclared
returns-in-Undeclared c =
    let h = subst (TellsNeed (document_of c.args.context.now) c.args.context.now.setting.now (edge_of_ref c.args.self.now)) c.in-Undeclared.is c.in_ok-dependency.ensures in
    (λ t. absurd cc, λ k. absurd (h.1 k.dependency k.wanted))

pub returns-in-Nothing : goal.returns-in-Nothing
returns-in-Nothing c =
    let h = subst (TellsNeed (document_of c.args.context.now) c.args.context.now.setting.now (edge_of_ref c.args.self.now)) c.in-Nothing.is c.in_ok-dependency.ensures in
    (λ t. absurd cc, λ k. absurd (h.0 k.dependency k.wanted))
