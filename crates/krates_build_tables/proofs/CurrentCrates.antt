-- The package of the folder of the build, by the id of the graph's root that was read.
use Rattle.std.proofs.Common.{◌≡◌, Option, Some, None, refl, sym, ap, ◌∙◌, subst}
use Rattle.std.proofs.lemmas.Option.{none-some, same_Some}
use Rattle.krates_cm.specs.Document.{Text}
use Rattle.krates_ids.specs.Identity.{Identity, Reads}
use Rattle.krates_rules.specs.Admission.{IsRootId}
use Rattle.krates_rules.specs.Facts.{Id}
use Rattle.krates_rules.specs.Resolved.{Resolved, IsMember, id_of}
use Rattle.krates_rules.proofs.Readings.{ReadsOnce}
use Rattle.krates_units.specs.Requests.{IsCurrent}

-- the text that the id of the root was read from
root_text : (o : Option Text) (root : Identity) → IsRootId o (Some root) → (t : Text) × (o ≡ Some t) × Reads t root
root_text None root h = absurd cc
root_text (Some t) root h = (t, refl, h)

pub is_root : ReadsOnce → (r : Resolved) (root : Identity) (i : Id) → IsRootId r.graph.root (Some root) → IsCurrent r i → id_of root ≡ i
is_root once r root i is current =
    let text = root_text r.graph.root root is in
    let same : text.0 ≡ current.text = same_Some text.0 current.text (sym text.1 ∙ current.root) in
    ap id_of (once current.text root current.id.read (subst (λ (t : Text). Reads t root) same text.2) current.id.reads) ∙ current.id.same

pub root_current : (r : Resolved) (root : Identity) (i : Id) → IsRootId r.graph.root (Some root) → id_of root ≡ i → IsMember r i → IsCurrent r i
root_current r root i is same member =
    let text = root_text r.graph.root root is in
    record { text = text.0; root = text.1; id = record { read = root; reads = text.2; same = same }; member = member }

pub no_root : (r : Resolved) (i : Id) → IsRootId r.graph.root None → IsCurrent r i → ⊥
no_root r i is current = none r.graph.root is current.root
  where
    none : (o : Option Text) → IsRootId o None → o ≡ Some current.text → ⊥
    none None h e = none-some current.text e
    none (Some t) h e = absurd h
