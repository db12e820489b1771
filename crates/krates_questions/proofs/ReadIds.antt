-- The ids of a document are read of it, place by place.
use Rattle.std.proofs.Common.{◌≡◌, ℕ, List, [], ◌∷◌, Some, Contains, slice_get}
use Rattle.std.specs.List.{AllByRecursion, AllZip}
use Rattle.krates_cm.specs.Document.{MetadataModel, ResolveModel, Text}
use Rattle.krates_ids.specs.Identity.{Identity, Reads}
use Rattle.krates_rules.specs.Admission.{StandsForId}
use Rattle.krates_rules.specs.NamedIds.{IsReadOf}
use Rattle.krates_rules.specs.Resolved.{HasGraphWith, Resolved, resolved}
use Rattle.krates_rules.proofs.Readings.{left_of}
use Rattle.krates_rules.proofs.Standings.{contains_at}

-- the id at a place of a list whose texts have to be ids
pub read_at : (r : Resolved) (texts : List Text) (ids : List Identity) (k : ℕ) (i : Identity) → ((t : Text) → Contains texts t → StandsForId r.metadata r.graph t) → AllZip Reads texts ids → slice_get ids k ≡ Some i → IsReadOf r i
read_at r texts ids k i stands z at =
    let w = left_of Reads texts ids k i z at in
    (w.0, stands w.0 (contains_at texts k w.0 w.1), w.2)

-- ids that are read of a document with its graph are read of the document
pub each_read : (m : MetadataModel) (g : ResolveModel) (ids : List Identity) → m.resolve ≡ Some g → AllByRecursion (IsReadOf (resolved m g)) ids → AllByRecursion (λ id. HasGraphWith m (λ h. IsReadOf (resolved m h) id)) ids
each_read m g [] is all = tt
each_read m g (id ∷ ids) is all = (record { graph = g; has_graph = is; holds = all.0 }, each_read m g ids is all.1)
