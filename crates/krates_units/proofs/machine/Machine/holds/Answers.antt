use Rattle.std.proofs.Common.{◌∙◌, List, String, Global, map, string_bytes, ap}
use Rattle.krates_text.specs.CfgHolding.{value_among, pair_bytes}
use Rattle.krates_text.specs.CfgExpression.{tree}
use Rattle.krates_units.specs.Machines.{machine_view}
use Rattle.krates_units.proofs.Holding.{expression_told}
use Rattle.krates_units.proofs.machine.Machine.holds.Goals as goal

pub returns-in-Ok : goal.returns-in-Ok
returns-in-Ok c =
    let p = tree c.in-Ok.expression in
    let words = c.args.self.now.words.items in
    let value =
    c.holds.ensures ∙ ap (λ (ws : List (String Global)). value_among (map string_bytes ws) (map pair_bytes c.as_slice-in-Ok.result.now) p) c.as_slice.ensures.value
    ∙ ap (λ (ps : List (String Global × String Global)). value_among (map string_bytes words) (map pair_bytes ps) p) c.as_slice-in-Ok.ensures.value in
    expression_told c.args.text.now (machine_view c.args.self.now) p c.holds.result c.in-Ok.ensures.found value
