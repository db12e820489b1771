use Rattle.std.proofs.Common.{refl, subst}
use Rattle.krates_cm.specs.Document.{dependency_view}
use Rattle.krates_derive.specs.FactRef.{edge_of_ref}
use Rattle.krates_derive.specs.Giving.{document_in, facts_in, setting_in}
use Rattle.krates_questions.specs.Availability.{TellsNeed}
use Rattle.krates_derive.proofs.Givings.{edge_nothing, edge_undeclared, edge_taken, edge_left}
use Rattle.krates_derive.proofs.closing.ClosureCheck.is_edge_in.Goals as goal

pub returns-in-Nothing : goal.returns-in-Nothing
returns-in-Nothing c =
    let r = document_in c.args.self.now in
    let e = edge_of_ref c.args.edge.now in
    (λ t. edge_nothing r (setting_in c.args.self.now) (facts_in c.args.self.now) e c.args.asked (subst (TellsNeed r (setting_in c.args.self.now) e) c.in-Nothing.is c.in_ok-need.ensures), λ h. refl)

pub returns-in-Undeclared : goal.returns-in-Undeclared
returns-in-Undeclared c =
    let r = document_in c.args.self.now in
    let e = edge_of_ref c.args.edge.now in
    edge_undeclared r (setting_in c.args.self.now) (facts_in c.args.self.now) e c.args.asked (subst (TellsNeed r (setting_in c.args.self.now) e) c.in-Undeclared.is c.in_ok-need.ensures)

pub returns-then-is_taken : goal.returns-then-is_taken
returns-then-is_taken c =
    let r = document_in c.args.self.now in
    let e = edge_of_ref c.args.edge.now in
    let w = subst (TellsNeed r (setting_in c.args.self.now) e) c.in-Wanted.is c.in_ok-need.ensures in
    edge_taken r (setting_in c.args.self.now) (facts_in c.args.self.now) e c.args.asked (dependency_view c.in-Wanted.dependency.now) c.is_child_in.result w (c.is_taken.ensures.0 c.if-is_taken.true) c.is_child_in.ensures

pub returns-else-is_taken : goal.returns-else-is_taken
returns-else-is_taken c =
    let r = document_in c.args.self.now in
    let e = edge_of_ref c.args.edge.now in
    let w = subst (TellsNeed r (setting_in c.args.self.now) e) c.in-Wanted.is c.in_ok-need.ensures in
    (λ t. edge_left r (setting_in c.args.self.now) (facts_in c.args.self.now) e c.args.asked (dependency_view c.in-Wanted.dependency.now) w (λ x. absurd (cc (c.is_taken.ensures.1 x, c.if-is_taken.false))), λ h. refl)
