use Rattle.std.proofs.Common.{map, take}
use Rattle.serde_json.specs.View.{items_view}
use Rattle.krates_cm_json.specs.Objects.{EachWritten}
use Rattle.krates_certificate.proofs.write.list.array.Given as goal

-- what is written so far
abbrev pub invariant-loop-item : goal.invariant-loop-item
invariant-loop-item g l = EachWritten g.T.CertificatePart.Writes (map g.T.CertificatePart.view (take l.item-index l.item-items)) (items_view l.values.items)
