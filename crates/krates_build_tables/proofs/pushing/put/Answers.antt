use Rattle.std.proofs.Common.{Some}
use Rattle.std.proofs.lemmas.Map.Text.{btree_map_updates_str}
use Rattle.krates_build_tables.proofs.pushing.put.Goals as goal

pub returns : goal.returns
returns g c text = btree_map_updates_str c.args.key.now c.args.items.now c.insert.new.self (Some c.args.item) c.in_ok-insert.ensures.updates text
