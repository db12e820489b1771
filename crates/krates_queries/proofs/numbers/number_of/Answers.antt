use Rattle.std.proofs.Common.{rules, ◌≡◌}
use Rattle.std.proofs.lemmas.Fn.{always_returns_same}
use Rattle.krates_queries.specs.Numbers.{node_cmp}
use Rattle.krates_queries.proofs.NodeLemmas.{number_found, no_number}
use Rattle.krates_rules.proofs.OrderedIds.{Compares}
use Rattle.krates_queries.proofs.numbers.number_of.Goals as goal

pub returns-in-Ok : goal.returns-in-Ok
returns-in-Ok g c n =
    let o : Compares = record { total = c.comparison.ensures.total; tells = c.comparison.ensures.order } in
    let at = c.in-Ok.ensures.position (λ node. node_cmp node c.args.kid.now) (always_returns_same _ _ _ (λ a r q called. search rules)) in
    let found = number_found o c.args.nodes.now c.args.kid.now c.in-Ok.place c.requires c.in-Ok.ensures.bound at n in (
      λ e. (let is : c.in-Ok.place ≡ n = cc (e) in found.0 is),
      λ h. (let is = found.1 h in cc (is)),
    )

pub returns-in-Err : goal.returns-in-Err
returns-in-Err g c n =
    let o : Compares = record { total = c.comparison.ensures.total; tells = c.comparison.ensures.order } in
    let parts = c.in-Err.ensures.position (λ node. node_cmp node c.args.kid.now) (always_returns_same _ _ _ (λ a r q called. search rules)) in (
      λ e. absurd (cc (e)),
      λ h. absurd (no_number o c.args.nodes.now c.args.kid.now c.in-Err.field-0 c.requires parts n h),
    )
