use Rattle.std.proofs.Common.{refl, sym, subst}
use Rattle.krates_cm.specs.Document.{DependencyModel, dependency_view}
use Rattle.krates_derive.specs.Giving.{document_in, facts_in, UsedIn}
use Rattle.krates_derive.specs.FactRef.{edge_of_ref}
use Rattle.krates_questions.specs.Availability.{TellsDeclaration}
use Rattle.krates_derive.proofs.closing.ClosureCheck.is_kept_in.Goals as goal

pub returns-in-Some : goal.returns-in-Some
returns-in-Some c =
    let r = document_in c.args.self.now in
    let e = edge_of_ref c.args.edge.now in
    let h = subst (TellsDeclaration r e) c.in-Some.is c.in_ok-dependency.ensures in (
      λ t. record { crate = c.has_crate.ensures.0 c.if-not-has_crate.false; used = λ d w. subst (λ (y : DependencyModel). UsedIn r (facts_in c.args.self.now) e.child y) (sym (h.only d w)) (c.is_used_in.ensures.0 t) },
      λ k. c.is_used_in.ensures.1 (k.used (dependency_view c.in-Some.dependency.now) h.declared),
    )

pub returns-in-None : goal.returns-in-None
returns-in-None c =
    let h = subst (TellsDeclaration (document_in c.args.self.now) (edge_of_ref c.args.edge.now)) c.in-None.is c.in_ok-dependency.ensures in
    (λ t. record { crate = c.has_crate.ensures.0 c.if-not-has_crate.false; used = λ d w. absurd (h d w) }, λ k. refl)
