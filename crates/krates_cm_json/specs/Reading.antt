-- What is read from JSON data, and what is wrong with data that isn't read.
use Rattle.std.specs.Prelude.{◌≡◌, ◌⊎◌, ℕ, List, [], ◌∷◌, Bool, Option, Some, None, option_and_then, Result, Ok, Err, ⊤}
use Rattle.serde_json.specs.Data.{Data, Items, no_items, item, Members, no_members, member}
use Rattle.serde_json.specs.Find.{get, as_null, as_bool, as_number, as_u64, as_str, as_array, as_object}
use Rattle.krates_cm.specs.declared.read_error.ReadError.{ReadError}
use Rattle.krates_cm.specs.declared.read_error.ReadError.TheVariants as errors
use Rattle.krates_cm_json.specs.Faults.{Fault, fault_of, missing, wrong_type}

-- What is read, if the data is readable, and each fault that is true of it.
pub record Reading (A : Type 0) : Type 1 where
  pub value : Option A
  pub IsFault : Fault → Type 0

-- What a function returned, seen by `view`, is what is read. A refusal comes where nothing is read,
-- and names a true fault, unless memory ran out.
abbrev pub Gives : {X Y : Type 0} → (X → Y) → Result X ReadError → Reading Y → Type 0
Gives view (Ok x) reading = reading.value ≡ Some (view x)
Gives view (Err e) reading = (e ≡ errors.Memory) ⊎ ((reading.value ≡ None) × reading.IsFault (fault_of e))

-- what is read from the data under a key: faults name the key
abbrev pub Reader : Type 0 → Type 1
Reader A = List ℕ → Data → Reading A

-- ---- how readings are combined

abbrev pub read_as : {A : Type 0} → A → Reading A
read_as x = record { value = Some x; IsFault = λ fault. ⊥ }

abbrev pub refused : {A : Type 0} → Fault → Reading A
refused wrong = record { value = None; IsFault = λ fault. fault ≡ wrong }

abbrev pub applied : {A B : Type 0} → Option (A → B) → Option A → Option B
applied None x = None
applied (Some f) None = None
applied (Some f) (Some x) = Some (f x)

-- a function and its argument: both have to be read, and a fault of either is true
infixl 10 ◌<*>◌
abbrev pub ◌<*>◌ : {A B : Type 0} → Reading (A → B) → Reading A → Reading B
f <*> x = record { value = applied f.value x.value; IsFault = λ fault. f.IsFault fault ⊎ x.IsFault fault }

abbrev pub if_read : {A : Type 0} → Option ⊤ → Option A → Option A
if_read None x = None
if_read (Some u) x = x

-- the second, where the first is read; a fault of the second is true only there
infixr 9 ◌then◌
abbrev pub ◌then◌ : {A : Type 0} → Reading ⊤ → Reading A → Reading A
first then second = record {
  value = if_read first.value second.value;
  IsFault = λ fault. first.IsFault fault ⊎ ((first.value ≡ Some tt) × second.IsFault fault);
}

-- what is made of a part of the data that may be missing
abbrev pub found : {A B : Type 0} → Reading A → (B → Reading A) → Option B → Reading A
found absent read None = absent
found absent read (Some x) = read x

-- the same, where data without that part has the wrong type
abbrev pub typed : {A B : Type 0} → List ℕ → (B → Reading A) → Option B → Reading A
typed key = found (refused (wrong_type key))

-- ---- plain values

abbrev pub text : Reader (List ℕ)
text key d = typed key read_as (as_str d)

abbrev pub boolean : Reader Bool
boolean key d = typed key read_as (as_bool d)

-- a number with neither a sign nor a fraction
abbrev pub whole : Reader ℕ
whole key d = typed key read_as (option_and_then as_u64 (as_number d))

-- whatever is there, unchanged
abbrev pub any : Reader Data
any key d = read_as d

-- the value that a text means, if it means one
abbrev pub named : {A : Type 0} → Fault → (List ℕ → Option A) → Reader A
named wrong meaning key d = typed key (λ s. record { value = meaning s; IsFault = λ fault. (fault ≡ wrong) × (meaning s ≡ None) }) (as_str d)

-- ---- null

-- null means this value
abbrev pub null_as : {A : Type 0} → A → Reader A → Reader A
null_as x read key d = found (read key d) (λ _. read_as x) (as_null d)

-- what is there, where null isn't allowed
abbrev pub present : {A : Type 0} → Reader A → Reader (Option A)
present read key d = read_as (λ x. Some x) <*> read key d

-- null is `None`
abbrev pub nullable : {A : Type 0} → Reader A → Reader (Option A)
nullable read = null_as None (present read)

-- ---- lists and maps

abbrev pub items : {A : Type 0} → (Data → Reading A) → Items → Reading (List A)
items read no_items = read_as []
items read (item d ds) = read_as (λ x xs. x ∷ xs) <*> read d <*> items read ds

-- a list: faults in its items name the list's key
abbrev pub list : {A : Type 0} → Reader A → Reader (List A)
list read key d = typed key (items (read key)) (as_array d)

abbrev pub map_items : {A : Type 0} → (Data → Reading A) → Members → Reading (List (List ℕ × A))
map_items read no_members = read_as []
map_items read (member name d ms) = read_as (λ x entries. (name, x) ∷ entries) <*> read d <*> map_items read ms

-- the names of an object, in order, and the value under each: faults in the values name the object's key
abbrev pub map_of : {A : Type 0} → Reader A → Reader (List (List ℕ × A))
map_of read key d = typed key (map_items (read key)) (as_object d)

-- ---- the fields of an object

abbrev pub object : Reader ⊤
object key d = typed key (λ _. read_as tt) (as_object d)

-- a field that has to be there
abbrev pub required : {A : Type 0} → Reader A → Reader A
required read key d = found (refused (missing key)) (read key) (get key d)

-- a field that may be absent, and then has this value
abbrev pub or_default : {A : Type 0} → Reader A → A → Reader A
or_default read default key d = found (read_as default) (read key) (get key d)

-- a field that may be absent or null, and then is `None`
abbrev pub optional : {A : Type 0} → Reader A → Reader (Option A)
optional read = or_default (nullable read) None

-- ---- what readings keep

-- Some fault is true exactly where nothing is read.
pub record IsExact {A : Type 0} (reading : Reading A) : Type 0 where
  pub unread : (fault : Fault) → reading.IsFault fault → reading.value ≡ None
  pub faulty : reading.value ≡ None → (fault : Fault) × reading.IsFault fault

-- for any data under any key
abbrev pub AlwaysExact : {A : Type 0} → Reader A → Type 0
AlwaysExact read = (key : List ℕ) (d : Data) → IsExact (read key d)
