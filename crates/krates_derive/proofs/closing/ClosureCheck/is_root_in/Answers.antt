use Rattle.std.proofs.Common.{refl}
use Rattle.krates_derive.proofs.closing.ClosureCheck.is_root_in.Goals as goal

pub returns-in-Available : goal.returns-in-Available
returns-in-Available c =
    let stands = c.in-Available.ensures.0 in (
      λ t. (
          let w = c.is_stock_in.ensures.0 t in
          record {
            kept = λ there. w.0;
            enabled = λ there f lists. w.1 f lists;
            has_package = λ none. none stands.included.pkg stands.included.has_package;
            has_node = λ lost. lost.no_node stands.node stands.has_node;
          }),
      λ h. c.is_stock_in.ensures.1 (h.kept stands, h.enabled stands),
    )

pub returns-in-Excluded : goal.returns-in-Excluded
returns-in-Excluded c =
    let h = c.in-Excluded.ensures in
    (λ t. record { kept = λ s. absurd (h.excluded s.included); enabled = λ s f l. absurd (h.excluded s.included); has_package = λ none. none h.left_out.pkg h.left_out.has_package; has_node = λ lost. h.excluded lost.included }, λ x. refl)

pub returns-in-NoPackage : goal.returns-in-NoPackage
returns-in-NoPackage c = (λ t. absurd cc, λ h. absurd (h.has_package c.in-NoPackage.ensures))

pub returns-in-NoNode : goal.returns-in-NoNode
returns-in-NoNode c = (λ t. absurd cc, λ h. absurd (h.has_node c.in-NoNode.ensures))
