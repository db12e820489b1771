use Rattle.std.proofs.Common.{rules, subst}
use Rattle.std.proofs.IntoIterSteps.{takes, taken}
use Rattle.std.proofs.lemmas.Iterator.{YieldsList, YieldsList-from_map, items_from_collect}
use Rattle.std.proofs.lemmas.Iterator.Consumers.{YieldsList-at}
use Rattle.krates_drawing.specs.Gathered.{row_in}
use Rattle.krates_drawing.specs.declared.gather.CrateRecord.{CrateRecord}
use Rattle.krates_drawing.proofs.gather.crate_rows.Goals as goal

pub returns : goal.returns
returns c =
    let start = c.into_iter.result in
    let road : YieldsList takes (λ (t : CrateRecord). t) start start.rest.items = record { runs = taken start } in
    let all = subst (YieldsList takes (λ (t : CrateRecord). t) start) c.into_iter.ensures.rest road in
    items_from_collect c.collect.result c.collect.ensures.ran (YieldsList-from_map _ row_in (YieldsList-at c.map.ensures.source all) c.map.ensures.closure (λ x r q k. search rules))
