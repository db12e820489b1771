use Rattle.std.proofs.Common.{map, take}
use Rattle.serde_json.specs.View.{items_view}
use Rattle.krates_cm_json.specs.Objects.{EachWritten}
use Rattle.krates_cm_json.proofs.write.values.VecToValue.to_value.Given as goal

-- what is written so far
abbrev pub invariant-loop-item : goal.invariant-loop-item
invariant-loop-item g l = EachWritten g.T.ToValue.Writes (map g.T.ToValue.view (take l.item-index l.item-items)) (items_view l.values.items)
