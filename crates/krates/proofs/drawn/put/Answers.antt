use Rattle.std.proofs.Common.{◌≡◌, get_or}
use Rattle.std.proofs.lemmas.List.{get_or_default}
use Rattle.std.proofs.lemmas.Map.Text.{btree_set_updates_text}
use Rattle.krates_cm.specs.Document.{text_view}
use Rattle.krates.proofs.EnabledLemmas.{put_there}
use Rattle.krates.proofs.NamesIn.{gets_name}
use Rattle.krates.proofs.drawn.put.Goals as goal

pub returns-clause-put : goal.returns-clause-put
returns-clause-put c =
    let place = c.args.feature.krate in
    let before = get_or c.args.sets.now place c.index-sets-krate.result in
    let had : get_or c.args.sets.now place c.insert.new.self ≡ before = get_or_default c.args.sets.now place c.insert.new.self c.index-sets-krate.result c.requires in
    let updated = btree_set_updates_text _ _ _ _ c.in_ok-insert.ensures.updates in
    put_there c.args.feature c.args.sets.now c.insert.new.self c.requires (rw had (gets_name before c.insert.new.self (text_view c.args.feature.name) updated))
