-- What is under a key of an object, and what may be wrong there.
use Rattle.std.specs.Prelude.{◌≡◌, ◌⊎◌, ◌<◌, ℕ, List, Some, None, MatchOption, codes}
use Rattle.serde_json.specs.Data.{Data}
use Rattle.serde_json.specs.Find.{get, at, as_array}
use Rattle.krates_cm.specs.Document.{Text}
use Rattle.krates_cm_json.specs.Faults as document
use Rattle.krates_cm_json.specs.Objects.{ListWritten}
use Rattle.krates_cm_json.specs.Reading.{Reader, required, text, whole}
use Rattle.krates_ids.specs.Identity.{Identity, Reads}
use Rattle.krates_certificate.specs.CertificateRefusals.{Fault, read, bad_id, unknown_name, too_large}

-- ---- what is there

-- the reader reads this under the key
abbrev pub Field : {A : Type 0} → Reader A → Text → A → Data → Type 0
Field reader key x d = (required reader key d).value ≡ Some x

-- the text under the key reads as the id
abbrev pub IdField : Text → Identity → Data → Type 0
IdField key id d = (s : Text) × Field text key s d × Reads s id

-- the text under the key is the name
abbrev pub NameField : Text → Text → Data → Type 0
NameField = Field text

-- the number of a rule
abbrev pub RuleField : ℕ → Data → Type 0
RuleField rule d = Field whole (codes "rule") rule d × (rule < 256)

-- the data under the key has the property
abbrev pub PartField : (Data → Type 0) → Text → Data → Type 0
PartField Is key d = MatchOption (get key d) ⊥ Is

-- under the key is a list of these, in order
abbrev pub ListField : {A : Type 0} → (A → Data → Type 0) → Text → List A → Data → Type 0
ListField Is key xs = PartField (ListWritten Is xs) key

-- ---- what is wrong there

-- the key is missing, or the data under it has another JSON type
abbrev pub FieldFault : {A : Type 0} → Reader A → Text → Data → Fault → Type 0
FieldFault reader key d (read fault) = (required reader key d).IsFault fault
FieldFault reader key d _ = ⊥

-- or the text there isn't an id
abbrev pub IdFault : Text → Data → Fault → Type 0
IdFault key d fault = FieldFault text key d fault
    ⊎ ((s : Text) × Field text key s d × ((id : Identity) → Reads s id → ⊥) × (fault ≡ bad_id key))

-- or the text there isn't one of the names
abbrev pub NameFault : {A : Type 0} → (A → Text) → Text → Data → Fault → Type 0
NameFault {A} name key d fault = FieldFault text key d fault
    ⊎ ((s : Text) × NameField key s d × ((x : A) → s ≡ name x → ⊥) × (fault ≡ unknown_name key))

-- or the number there isn't the number of a rule
abbrev pub RuleFault : Data → Fault → Type 0
RuleFault d fault = FieldFault whole (codes "rule") d fault
    ⊎ ((n : ℕ) × Field whole (codes "rule") n d × (255 < n) × (fault ≡ too_large (codes "rule")))

-- or the fault is true of the data there
abbrev pub PartFault : (Data → Fault → Type 0) → Text → Data → Fault → Type 0
PartFault IsFault key d fault = ((get key d ≡ None) × (fault ≡ read (document.missing key))) ⊎ PartField (λ e. IsFault e fault) key d

-- what is wrong with data under the key that should be a list: it isn't one, or the fault is true of an item
abbrev pub ItemsFault : (Data → Fault → Type 0) → Text → Data → Fault → Type 0
ItemsFault IsFault key e fault = ((as_array e ≡ None) × (fault ≡ read (document.wrong_type key)))
    ⊎ ((n : ℕ) × MatchOption (at n e) ⊥ (λ i. IsFault i fault))

-- the same of the data there, or the key is missing
abbrev pub ListFault : (Data → Fault → Type 0) → Text → Data → Fault → Type 0
ListFault IsFault key = PartFault (ItemsFault IsFault key) key
