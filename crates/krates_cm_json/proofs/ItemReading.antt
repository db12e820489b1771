-- An array that is read item by item.
use Rattle.std.proofs.Common.{◌≡◌, inl, inr, ℕ, zero, suc, ◌<◌, List, [], ◌∷◌, ◌++◌, Option, Some, None, Err, option_map, refl, sym, ◌∙◌, arith}
use Rattle.serde_json.specs.Data as serde
use Rattle.serde_json.specs.Data.{Data, Items, no_items, item}
use Rattle.serde_json.specs.Events.{items_len}
use Rattle.serde_json.specs.Find.{as_array, at, get_item}
use Rattle.krates_cm.specs.declared.read_error.ReadError.{ReadError}
use Rattle.krates_cm_json.specs.Faults.{Fault, fault_of}
use Rattle.krates_cm_json.specs.Reading.{Reading, Gives, Reader, items, list}
use Rattle.krates_cm_json.proofs.ListReading.{with_front, regroup}

-- the items of an array
abbrev pub array_items : Data → Items
array_items serde.null = no_items
array_items (serde.boolean b) = no_items
array_items (serde.number n) = no_items
array_items (serde.string s) = no_items
array_items (serde.array ds) = ds
array_items (serde.object ms) = no_items

-- the items from that place on
abbrev pub items_from : ℕ → Items → Items
items_from zero ds = ds
items_from (suc n) no_items = no_items
items_from (suc n) (item d ds) = items_from n ds

item_here : (n : ℕ) (ds : Items) (d : Data) → Some d ≡ get_item n ds → items_from n ds ≡ item d (items_from (suc n) ds)
item_here n no_items d is = absurd (cc)
item_here zero (item e ds) d is = cc
item_here (suc n) (item e ds) d is = item_here n ds d is

-- the item at that place is the first of those from it on
pub next_item : (n : ℕ) (v d : Data) → Some d ≡ at n v → items_from n (array_items v) ≡ item d (items_from (suc n) (array_items v))
next_item n serde.null d is = absurd (cc)
next_item n (serde.boolean b) d is = absurd (cc)
next_item n (serde.number x) d is = absurd (cc)
next_item n (serde.string s) d is = absurd (cc)
next_item n (serde.array ds) d is = item_here n ds d is
next_item n (serde.object ms) d is = absurd (cc)

no_item_here : (n : ℕ) (ds : Items) → None ≡ get_item n ds → items_from n ds ≡ no_items
no_item_here zero no_items is = refl
no_item_here (suc n) no_items is = refl
no_item_here zero (item e ds) is = absurd (cc)
no_item_here (suc n) (item e ds) is = no_item_here n ds is

-- where no item is, none is left
pub no_item_left : (n : ℕ) (v : Data) → None ≡ at n v → items_from n (array_items v) ≡ no_items
no_item_left n serde.null is = all_over n
  where
    all_over : (n : ℕ) → items_from n no_items ≡ no_items
    all_over zero = refl
    all_over (suc n) = refl
no_item_left n (serde.boolean b) is = no_item_here n no_items refl
no_item_left n (serde.number x) is = no_item_here n no_items refl
no_item_left n (serde.string s) is = no_item_here n no_items refl
no_item_left n (serde.array ds) is = no_item_here n ds is
no_item_left n (serde.object ms) is = no_item_here n no_items refl

few : (n : ℕ) (ds : Items) (d : Data) → Some d ≡ get_item n ds → n < items_len ds
few n no_items d is = absurd (cc)
few zero (item e ds) d is = omega arith
few (suc n) (item e ds) d is = omega (arith, few n ds d is)

-- an item is within the array
pub item_within : (n : ℕ) (v d : Data) → Some d ≡ at n v → n < items_len (array_items v)
item_within n serde.null d is = absurd (cc)
item_within n (serde.boolean b) d is = absurd (cc)
item_within n (serde.number x) d is = absurd (cc)
item_within n (serde.string s) d is = absurd (cc)
item_within n (serde.array ds) d is = few n ds d is
item_within n (serde.object ms) d is = absurd (cc)

-- what counts its items is an array
pub read_whole : {A : Type 0} (read : Reader A) (key : List ℕ) (v : Data) (n : ℕ) → Some n ≡ option_map items_len (as_array v) → (items (read key) (array_items v)).value ≡ (list read key v).value
read_whole read key serde.null n is = absurd (cc)
read_whole read key (serde.boolean b) n is = absurd (cc)
read_whole read key (serde.number x) n is = absurd (cc)
read_whole read key (serde.string s) n is = absurd (cc)
read_whole read key (serde.array ds) n is = refl
read_whole read key (serde.object ms) n is = absurd (cc)

pub faults_whole : {A : Type 0} (read : Reader A) (key : List ℕ) (v : Data) (n : ℕ) → Some n ≡ option_map items_len (as_array v) → (fault : Fault) → (items (read key) (array_items v)).IsFault fault → (list read key v).IsFault fault
faults_whole read key serde.null n is = absurd (cc)
faults_whole read key (serde.boolean b) n is = absurd (cc)
faults_whole read key (serde.number x) n is = absurd (cc)
faults_whole read key (serde.string s) n is = absurd (cc)
faults_whole read key (serde.array ds) n is = λ fault h. h
faults_whole read key (serde.object ms) n is = absurd (cc)

-- one more item was read
pub item_read : {A : Type 0} (read : Data → Reading A) (front : List A) (x : A) (d : Data) (ds : Items) (total : Option (List A)) → (read d).value ≡ Some x
    → with_front front (items read (item d ds)).value ≡ total → with_front (front ++ x ∷ []) (items read ds).value ≡ total
item_read read front x d ds total is so_far =
    let one : with_front front (items read (item d ds)).value ≡ with_front (front ++ x ∷ []) (items read ds).value = rw is (regroup front x (items read ds).value) in
    sym one ∙ so_far

-- an item was refused
pub item_refused : {A X Y : Type 0} (seen : X → A) (all_seen : Y → List A) (read : Data → Reading A) (front : List A) (d : Data) (ds : Items) (e : ReadError) (total : Reading (List A))
    → with_front front (items read (item d ds)).value ≡ total.value → ((fault : Fault) → (items read (item d ds)).IsFault fault → total.IsFault fault)
    → Gives seen (Err e) (read d) → Gives all_seen (Err e) total
item_refused seen all_seen read front d ds e total so_far faults (inl memory) = inl memory
item_refused seen all_seen read front d ds e total so_far faults (inr (none, fault)) =
    let nothing : with_front front (items read (item d ds)).value ≡ None = rw none refl in
    inr (sym so_far ∙ nothing, faults (fault_of e) (inl (inr fault)))

-- nothing was read yet
pub no_front : {A : Type 0} (r : Option (List A)) → with_front [] r ≡ r
no_front None = refl
no_front (Some xs) = refl
