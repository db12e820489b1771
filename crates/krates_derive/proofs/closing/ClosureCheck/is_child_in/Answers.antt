use Rattle.std.proofs.Common.{refl}
use Rattle.krates_derive.specs.FactRef.{edge_of_ref}
use Rattle.krates_derive.specs.Giving.{document_in, facts_in, setting_in}
use Rattle.krates_derive.proofs.Givings.{child_here}
use Rattle.krates_derive.proofs.closing.ClosureCheck.is_child_in.Goals as goal

pub returns-in-Available : goal.returns-in-Available
returns-in-Available c =
    let fs = facts_in c.args.self.now in
    child_here (document_in c.args.self.now) (setting_in c.args.self.now) fs (edge_of_ref c.args.edge.now) c.has.result c.in-Available.ensures.0 c.has.ensures

pub returns-in-Excluded : goal.returns-in-Excluded
returns-in-Excluded c =
    let h = c.in-Excluded.ensures in
    (λ t. record { kept = λ s. absurd (h.excluded s.included); has_package = λ none. none h.left_out.pkg h.left_out.has_package; has_node = λ lost. h.excluded lost.included }, λ x. refl)

pub returns-in-NoPackage : goal.returns-in-NoPackage
returns-in-NoPackage c = (λ t. absurd cc, λ h. absurd (h.has_package c.in-NoPackage.ensures))

pub returns-in-NoNode : goal.returns-in-NoNode
returns-in-NoNode c = (λ t. absurd cc, λ h. absurd (h.has_node c.in-NoNode.ensures))
