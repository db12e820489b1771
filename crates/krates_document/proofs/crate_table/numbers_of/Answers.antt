use Rattle.std.proofs.Common.{map, arith}
use Rattle.krates_rules.proofs.Zips.{zip_all, zip_next}
use Rattle.krates_document.specs.CrateTable.{IsNumberOf}
use Rattle.krates_rules.specs.Resolved.{id_of}
use Rattle.krates_document.proofs.crate_table.numbers_of.Goals as goal

pub loop-id-preserved : goal.loop-id-preserved
loop-id-preserved c =
    let l = c.loop-id in
    rw c.in_ok-push.ensures.items (zip_next (IsNumberOf (map id_of c.args.ids.now)) id_of c.args.list.now l.id-index c.id-item.result l.numbers.items c.number_of.result (omega arith) c.id-item.is c.number_of.ensures l.invariant)

pub returns : goal.returns
returns c = zip_all (IsNumberOf (map id_of c.args.ids.now)) id_of c.args.list.now c.loop-id.id-index c.loop-id.numbers.items (omega arith) c.loop-id.invariant
