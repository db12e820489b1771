-- How the JSON data that is written for a value is made.
use Rattle.std.specs.Prelude.{◌≡◌, ℕ, List, [], ◌∷◌, Bool, true, false, Option, Some, None, ⊤}
use Rattle.serde_json.specs.Data.{Data, null, boolean, number, unsigned, string, array, object, Items, no_items, item, Members, no_members, member}
use Rattle.krates_cm.specs.Document.{Text}

-- which data may be written for a value
abbrev pub Writer : Type 0 → Type 1
Writer A = A → Data → Type 0

-- ---- plain values

abbrev pub TextWritten : Writer Text
TextWritten s d = d ≡ string s

abbrev pub BooleanWritten : Writer Bool
BooleanWritten b d = d ≡ boolean b

abbrev pub WholeWritten : Writer ℕ
WholeWritten n d = d ≡ number (unsigned n)

-- free-form data, as it is
abbrev pub AnyWritten : Writer Data
AnyWritten m d = d ≡ m

-- `None` is null
abbrev pub OptionWritten : {A : Type 0} → Writer A → Writer (Option A)
OptionWritten W None d = d ≡ null
OptionWritten W (Some x) d = W x d

-- ---- lists and maps

abbrev pub EachWritten : {A : Type 0} → Writer A → List A → Items → Type 0
EachWritten W [] no_items = ⊤
EachWritten W [] (item d ds) = ⊥
EachWritten W (x ∷ xs) no_items = ⊥
EachWritten W (x ∷ xs) (item d ds) = W x d × EachWritten W xs ds

-- a list: its items, in order
abbrev pub ListWritten : {A : Type 0} → Writer A → Writer (List A)
ListWritten W xs (array ds) = EachWritten W xs ds
ListWritten W xs _ = ⊥

abbrev pub EntriesWritten : {A : Type 0} → Writer A → List (Text × A) → Members → Type 0
EntriesWritten W [] no_members = ⊤
EntriesWritten W [] (member name d ms) = ⊥
EntriesWritten W (e ∷ es) no_members = ⊥
EntriesWritten W (e ∷ es) (member name d ms) = (name ≡ e.0) × W e.1 d × EntriesWritten W es ms

-- a map: under each of its names what is written for the value there, in the order of the names
abbrev pub MapWritten : {A : Type 0} → Writer A → Writer (List (Text × A))
MapWritten W es (object ms) = EntriesWritten W es ms
MapWritten W es _ = ⊥

-- ---- objects

-- The keys of an object in their order, one row for each: whether the key is there, and which data may then be
-- under it.
pub data Table : Type 1 where
  no_more : Table
  row : Bool → Text → (Data → Type 0) → Table → Table

-- a row whose key is always there, and the rows after it
infixr 5 ◌also◌
abbrev pub ◌also◌ : (Table → Table) → Table → Table
first also rest = first rest

abbrev pub always : Text → (Data → Type 0) → Table → Table
always key W rest = row true key W rest

-- a key that is only there if something holds
abbrev pub only_where : Bool → Text → (Data → Type 0) → Table → Table
only_where there key W rest = row there key W rest

-- the members are those of the table's rows, in order
abbrev pub MembersWritten : Table → Members → Type 0
MembersWritten no_more no_members = ⊤
MembersWritten no_more (member name d ms) = ⊥
MembersWritten (row true key W rest) no_members = ⊥
MembersWritten (row true key W rest) (member name d ms) = (name ≡ key) × W d × MembersWritten rest ms
MembersWritten (row false key W rest) ms = MembersWritten rest ms

-- an object of a table's rows
abbrev pub ObjectWritten : Table → Data → Type 0
ObjectWritten table (object ms) = MembersWritten table ms
ObjectWritten table _ = ⊥
