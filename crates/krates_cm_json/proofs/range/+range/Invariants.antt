use Rattle.std.proofs.Common.{◌↔◌, drop}
use Rattle.json.specs.Value.{items_view, members_view}
use Rattle.krates_cm_json.specs.Readable.{AreItemsInRange, AreMembersInRange}
use Rattle.krates_cm_json.proofs.range.+range.Given as goal

-- the rest is in range exactly where all is
abbrev pub invariant-are_items_in_range-loop-item : goal.invariant-are_items_in_range-loop-item
invariant-are_items_in_range-loop-item l = AreItemsInRange (items_view (drop l.item-index l.item-items)) ↔ AreItemsInRange (items_view l.item-items)

abbrev pub invariant-are_members_in_range-loop-member : goal.invariant-are_members_in_range-loop-member
invariant-are_members_in_range-loop-member l = AreMembersInRange (members_view (drop l.member-index l.member-items)) ↔ AreMembersInRange (members_view l.member-items)
