use Rattle.std.proofs.Common.{List, ◌++◌, length, map, []}
use Rattle.json.specs.Token.{Token}
use Rattle.krates_cm_json.specs.ByItem.{ReadsNext}
use Rattle.krates_cm_json.specs.Reading.{list}
use Rattle.krates_cm_json.proofs.ByItemLemmas.{ReadsItems}
use Rattle.krates_cm_json.proofs.by_item.next_list.Given as goal

-- whatever the rest is read as, the whole is read as the items so far and then that
abbrev pub invariant-loop-alloc : goal.invariant-loop-alloc
invariant-loop-alloc g l =
    (xs : List g.T.FromValue.Model) (after : List Token) → ReadsItems (g.T.FromValue.reads []) l.reader xs after
    → ReadsNext 125 (list g.T.FromValue.reads []) l.fn.reader (map g.T.FromValue.view l.items.items ++ xs) after

abbrev pub decreases-loop-alloc : goal.decreases-loop-alloc
decreases-loop-alloc g l = length l.reader
