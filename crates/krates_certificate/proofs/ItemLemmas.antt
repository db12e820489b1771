-- A list of parts that is read item by item.
use Rattle.std.proofs.Common.{◌≡◌, ◌⊎◌, inl, inr, ℕ, List, [], ◌∷◌, ◌++◌, Some, option_map, append_assoc}
use Rattle.serde_json.specs.Data as serde
use Rattle.serde_json.specs.Data.{Data, Items, item}
use Rattle.serde_json.specs.Events.{items_len}
use Rattle.serde_json.specs.Find.{as_array, at}
use Rattle.krates_cm.specs.Document.{Text}
use Rattle.krates_cm_json.specs.Faults.{out_of_memory}
use Rattle.krates_cm_json.specs.Objects.{Writer, EachWritten, ListWritten}
use Rattle.krates_cm_json.proofs.ItemReading.{array_items}
use Rattle.krates_certificate.specs.CertificateFields.{ItemsFault}
use Rattle.krates_certificate.specs.CertificateRefusals.{Fault, read}

-- the items of what counts them are its list
pub whole_list : {A : Type 0} (Is : Writer A) (v : Data) (n : ℕ) → Some n ≡ option_map items_len (as_array v) → (xs : List A) → EachWritten Is xs (array_items v) → ListWritten Is xs v
whole_list Is serde.null n is = absurd (cc)
whole_list Is (serde.boolean b) n is = absurd (cc)
whole_list Is (serde.number x) n is = absurd (cc)
whole_list Is (serde.string s) n is = absurd (cc)
whole_list Is (serde.array ds) n is = λ xs h. h
whole_list Is (serde.object ms) n is = absurd (cc)

-- one more item was read
pub one_more : {A : Type 0} (Is : Writer A) (front : List A) (x : A) (d : Data) (ds : Items) (v : Data) → ((xs : List A) → EachWritten Is xs (item d ds) → ListWritten Is (front ++ xs) v)
    → Is x d → (xs : List A) → EachWritten Is xs ds → ListWritten Is ((front ++ x ∷ []) ++ xs) v
one_more Is front x d ds v so_far is xs h = rw append_assoc (so_far (x ∷ xs) (is, h))

-- an item was refused
pub item_refused : (IsFault : Data → Fault → Type 0) (key : Text) (v d : Data) (n : ℕ) (fault : Fault) → Some d ≡ at n v
    → (fault ≡ read out_of_memory) ⊎ IsFault d fault → (fault ≡ read out_of_memory) ⊎ ItemsFault IsFault key v fault
item_refused IsFault key v d n fault is (inl memory) = inl memory
item_refused IsFault key v d n fault is (inr wrong) = inr (inr (n, rw (← is) wrong))
