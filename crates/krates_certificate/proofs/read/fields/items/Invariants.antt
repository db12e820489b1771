use Rattle.std.proofs.Common.{◌-◌, List, ◌++◌, length, map}
use Rattle.serde_json.specs.Events.{items_len}
use Rattle.krates_cm_json.specs.Objects.{EachWritten, ListWritten}
use Rattle.krates_cm_json.proofs.ItemReading.{array_items, items_from}
use Rattle.krates_certificate.proofs.read.fields.items.Given as goal

-- the parts read so far, then any that the rest reads as, are what the whole reads as
abbrev pub invariant-loop-item : goal.invariant-loop-item
invariant-loop-item g l =
    let v = g.J.JsonRef.meaning l.value in
    let Is = g.T.CertificatePart.Is in
    (xs : List g.T.CertificatePart.Model) → EachWritten Is xs (items_from (length l.parts.items) (array_items v)) → ListWritten Is (map g.T.CertificatePart.view l.parts.items ++ xs) v

abbrev pub decreases-loop-item : goal.decreases-loop-item
decreases-loop-item g l = items_len (array_items (g.J.JsonRef.meaning l.value)) - length l.parts.items
