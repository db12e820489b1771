-- The ids that the texts of a list are read as.
use Rattle.std.proofs.Common.{◌≡◌, List, [], ◌∷◌, ◌++◌, Contains, map, inl, inr, sym, ap, ◌∙◌, subst}
use Rattle.std.proofs.lemmas.List.{map-append}
use Rattle.std.proofs.lemmas.List.Elements.{Contains-append_left, Contains-push, Contains-push_cases}
use Rattle.krates_cm.specs.Document.{Text}
use Rattle.krates_ids.specs.Identity.{Identity, Reads}
use Rattle.krates_rules.specs.Facts.{Id}
use Rattle.krates_rules.specs.Resolved.{id_of}
use Rattle.krates_rules.proofs.PutElements.{none_there}
use Rattle.krates_rules.proofs.Readings.{ReadsOnce}
use Rattle.krates_build_tables.specs.RequestsFlags.{AreReadFrom}

pub read_none : AreReadFrom [] []
read_none i = (λ h. absurd (none_there h.text h.among), λ c. absurd (none_there i c))

-- one more text, which is an id
pub read_more : ReadsOnce → (texts : List Text) (ids : List Identity) (t : Text) (id : Identity) → Reads t id → AreReadFrom texts ids → AreReadFrom (texts ++ t ∷ []) (ids ++ id ∷ [])
read_more once texts ids t id reads so_far i = rw map-append (
  λ h. elim (Contains-push_cases texts t h.text h.among) [
    | inl before ↦ Contains-append_left (map id_of ids) (id_of id ∷ []) i ((so_far i).0 (record { text = h.text; among = before; id = h.id }))
    | inr e ↦ (
        let same : id_of id ≡ i = ap id_of (once h.text id h.id.read (subst (λ (u : Text). Reads u id) e reads) h.id.reads) ∙ h.id.same in
        subst (λ (j : Id). Contains (map id_of ids ++ id_of id ∷ []) j) same (Contains-push (map id_of ids) (id_of id)))
  ],
  λ c. elim (Contains-push_cases (map id_of ids) (id_of id) i c) [
    | inl before ↦ (
        let h = (so_far i).1 before in
        record { text = h.text; among = Contains-append_left texts (t ∷ []) h.text h.among; id = h.id })
    | inr e ↦ record { text = t; among = Contains-push texts t; id = record { read = id; reads = reads; same = e } }
  ],
)

-- one more text, which isn't an id
pub read_skipped : (texts : List Text) (ids : List Identity) (t : Text) → ((i : Identity) → Reads t i → ⊥) → AreReadFrom texts ids → AreReadFrom (texts ++ t ∷ []) ids
read_skipped texts ids t none so_far i = (
  λ h. elim (Contains-push_cases texts t h.text h.among) [
    | inl before ↦ (so_far i).0 (record { text = h.text; among = before; id = h.id })
    | inr e ↦ absurd (none h.id.read (subst (λ (u : Text). Reads u h.id.read) (sym e) h.id.reads))
  ],
  λ c.
      let h = (so_far i).1 c in
      record { text = h.text; among = Contains-append_left texts (t ∷ []) h.text h.among; id = h.id },
)
