use Rattle.std.proofs.Common.{List, map, arith, subst}
use Rattle.std.proofs.lemmas.List.{map-append}
use Rattle.std.specs.Global.{Vec}
use Rattle.krates_rules.proofs.Zips.{zip_all, zip_next}
use Rattle.krates_ids.specs.Identity.{Identity}
use Rattle.krates_document.specs.CrateTable.{AreNumbersOf, numbers_in}
use Rattle.krates_rules.specs.Resolved.{id_of}
use Rattle.krates_document.proofs.crate_table.numbers_of_each.Goals as goal

pub loop-list-preserved : goal.loop-list-preserved
loop-list-preserved c =
    let l = c.loop-list in
    let x = c.list-item.result in
    let numbers = c.in_ok-numbers_of.field-0 in
    let are = subst (λ (ks : List Identity). AreNumbersOf (map id_of c.args.ids.now) ks numbers.items) c.deref.ensures.value c.in_ok-numbers_of.ensures in
    rw (c.in_ok-push.ensures.items, map-append) (zip_next (AreNumbersOf (map id_of c.args.ids.now)) (λ (v : Vec Identity). v.items) c.args.lists.now l.list-index x (numbers_in l.numbers) numbers.items (omega arith) c.list-item.is are l.invariant)

pub returns : goal.returns
returns c = zip_all (AreNumbersOf (map id_of c.args.ids.now)) (λ (v : Vec Identity). v.items) c.args.lists.now c.loop-list.list-index (numbers_in c.loop-list.numbers) (omega arith) c.loop-list.invariant
