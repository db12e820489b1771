use Rattle.std.proofs.Common.{rules}
use Rattle.std.specs.BTreeMap.Entry.{entry_value, map_with_value}
use Rattle.krates_answers.proofs.OneMoreGrouped.{one_more_grouped}
use Rattle.krates_answers.proofs.grouped.put_under.Goals as goal

pub returns : goal.returns
returns g c items groups =
    let entry = c.in_ok-groups.field-0 in
    let e = c.in_ok-groups.ensures in
    let after = c.push.new.self in
    let more = one_more_grouped items c.args.groups.now c.args.key c.args.item (entry_value entry) c.or_default.result.now after (map_with_value entry)
    groups e.value c.or_default.ensures.value c.in_ok-push.ensures.items (e.update.0 after) (e.update.2 after) in
    search (rules, more)
