use Rattle.std.proofs.Common.{◌≡◌, ◌≤◌, Some, arith, rules}
use Rattle.json.proofs.Unique.Spelling.{value-json_tokens_back}
use Rattle.json.specs.Json.{value}
use Rattle.json.specs.Tree.{depth, HasNumbers}
use Rattle.json.specs.Value.{value_view}
use Rattle.krates_cm_json.specs.Readable.{IsInRange}
use Rattle.krates_cm_json.proofs.by_item.next_value.Goals as goal

pub returns-then-is_in_range : goal.returns-then-is_in_range
returns-then-is_in_range c =
    let j = value_view c.in_ok-tree.tree in
    let read : value 124 c.args.reader.now ≡ Some (j, c.read.new.reader) = search rules in
    let numbers : HasNumbers j = search rules in
    let shallow : depth j ≤ 124 = search rules in
    let in_range : IsInRange j = c.is_in_range.ensures.0 c.if-is_in_range.true in
    (((numbers, (omega (arith, shallow), in_range)), shallow), value-json_tokens_back 124 c.args.reader.now c.read.new.reader j read)
