use Rattle.std.proofs.Common.{rules}
use Rattle.std.proofs.lemmas.Fn.{always_returns_same}
use Rattle.krates_drawing.specs.declared.outline.CrateRow.{CrateRow}
use Rattle.krates_ids.specs.Identity.{id_cmp}
use Rattle.krates_rules.proofs.OrderedIds.{Compares}
use Rattle.krates_drawing.proofs.SearchedKrates.{has_found, has_none}
use Rattle.krates_drawing.proofs.division.has.Goals as goal

pub returns-in-Ok : goal.returns-in-Ok
returns-in-Ok c =
    let o : Compares = record { total = c.comparison.ensures.total; tells = c.comparison.ensures.order } in
    let at = c.in-Ok.ensures.position (λ (k : CrateRow). id_cmp k.id c.args.id.now) (always_returns_same _ _ _ (λ a r q called. search rules)) in
    has_found o (λ (k : CrateRow). k.id) c.args.krates.now c.args.id.now c.in-Ok.field-0 c.in-Ok.ensures.bound at

pub returns-in-Err : goal.returns-in-Err
returns-in-Err c =
    let o : Compares = record { total = c.comparison.ensures.total; tells = c.comparison.ensures.order } in
    let parts = c.in-Err.ensures.position (λ (k : CrateRow). id_cmp k.id c.args.id.now) (always_returns_same _ _ _ (λ a r q called. search rules)) in
    has_none o (λ (k : CrateRow). k.id) c.args.krates.now c.args.id.now c.in-Err.field-0 c.requires parts
