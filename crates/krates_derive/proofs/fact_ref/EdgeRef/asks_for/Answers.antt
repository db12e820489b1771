use Rattle.std.proofs.Common.{subst}
use Rattle.krates_cm.specs.Document.{DependencyModel}
use Rattle.krates_derive.specs.Following.{AsksFeature}
use Rattle.krates_derive.specs.FactRef.{edge_of_ref}
use Rattle.krates_questions.specs.Lookup.{resolved_view}
use Rattle.krates_questions.specs.Availability.{TellsDeclaration}
use Rattle.krates_derive.proofs.fact_ref.EdgeRef.asks_for.Goals as goal

pub returns-in-Some : goal.returns-in-Some
returns-in-Some c =
    let h = subst (TellsDeclaration (resolved_view c.args.document.now) (edge_of_ref c.args.self.now)) c.in-Some.is c.in_ok-dependency.ensures in (
      λ t. record { dependency = _; declared = h.declared; asks = c.asks_feature.ensures.0 t },
      λ k. c.asks_feature.ensures.1 (subst (λ (d : DependencyModel). AsksFeature d c.args.name.now) (h.only k.dependency k.declared) k.asks),
    )

pub returns-in-None : goal.returns-in-None
returns-in-None c =
    let h = subst (TellsDeclaration (resolved_view c.args.document.now) (edge_of_ref c.args.self.now)) c.in-None.is c.in_ok-dependency.ensures in
    (λ t. absurd cc, λ k. absurd (h k.dependency k.declared))
