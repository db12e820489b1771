use Rattle.std.proofs.Common.{◌≡◌, ◌-◌, length, map}
use Rattle.serde_json.specs.Events.{items_len}
use Rattle.krates_cm_json.specs.Faults.{Fault}
use Rattle.krates_cm_json.specs.Reading.{items, list}
use Rattle.krates_cm_json.proofs.ItemReading.{array_items, items_from}
use Rattle.krates_cm_json.proofs.ListReading.{with_front}
use Rattle.krates_cm_json.proofs.read.values.VecFromValue.from_json_at.Given as goal

-- the items read so far, then those that the rest reads as, are what the whole reads as; and a fault of the rest is a fault of the whole
abbrev pub invariant-loop-item : goal.invariant-loop-item
invariant-loop-item g l =
    let all = list g.T.FromValue.reads l.key (g.J.JsonRef.meaning l.value) in
    let rest = items (g.T.FromValue.reads l.key) (items_from (length l.items.items) (array_items (g.J.JsonRef.meaning l.value))) in
    record {
      value : with_front (map g.T.FromValue.view l.items.items) rest.value ≡ all.value;
      faults : (fault : Fault) → rest.IsFault fault → all.IsFault fault;
    }

abbrev pub decreases-loop-item : goal.decreases-loop-item
decreases-loop-item g l = items_len (array_items (g.J.JsonRef.meaning l.value)) - length l.items.items
