use Rattle.std.proofs.Common.{map, sym, subst}
use Rattle.krates_rules.specs.Resolved.{id_of}
use Rattle.krates_document.specs.CrateTable.{IsNumberOf}
use Rattle.krates_document.proofs.Searches.{searched_id}
use Rattle.krates_document.proofs.crate_table.number_of.Goals as goal

pub returns : goal.returns
returns c = subst (IsNumberOf (map id_of c.args.ids.now) (id_of c.args.id.now)) (sym c.ok.ensures.value)
    (searched_id c.comparison.ensures.order c.comparison.ensures.total c.args.ids.now c.args.id.now c.binary_search.result c.requires c.binary_search.ensures.bound c.binary_search.ensures.position)
