-- What is found in a readable value, and what it is as data.
use Rattle.std.proofs.Common.{◌≡◌, ◌≤◌, ℕ, zero, suc, List, [], ◌∷◌, length, Bool, true, false, cond, Option, Some, None, option_map, option_and_then, is_some, Bor, Global, bytes_eq, append-nil, refl, sym, ap, ◌∙◌, subst, arith, true≢false}
use Rattle.std.proofs.lemmas.Slice.Eq.{bytes_eq-Decides}
use Rattle.std.specs.Prelude.{⊤, unwrap_or}
use Rattle.json.proofs.Numbered.{HasNumbers-at, HasNumbers-get}
use Rattle.json.proofs.Printed.Tokens.{tokens-print}
use Rattle.json.proofs.Printed.Trees.{ArePrintable-json_tokens, value-json_tokens}
use Rattle.json.specs.Find as tree
use Rattle.json.specs.Json as json
use Rattle.json.specs.Json.{Json}
use Rattle.json.specs.Print.{print}
use Rattle.json.specs.Token.{Token}
use Rattle.json.specs.Tree.{depth, items_depth, members_depth, json_tokens, MembersHaveNumbers}
use Rattle.json.specs.Value.{value_view, items_view, members_view}
use Rattle.json.specs.declared.value.Value.{Value}
use Rattle.serde_json.proofs.Views.{get_member-put, get_member-put_other}
use Rattle.serde_json.specs.Data as serde
use Rattle.serde_json.specs.Data.{Data, put}
use Rattle.serde_json.specs.Events.{items_len}
use Rattle.serde_json.specs.Find as found
use Rattle.serde_json.specs.Read.{number_of, of_json, of_items, of_members, max_depth, read}
use Rattle.krates_cm_json.specs.Readable.{IsReadable, data_in}

-- ---- the data of a readable value

some_made : {A : Type 0} (o : Option A) → is_some o ≡ true → (a : A) × (o ≡ Some a)
some_made None h = absurd (cc)
some_made (Some a) h = (a, refl)

pub data_is : (j : Json) → IsReadable j → of_json j ≡ Some (data_in j)
data_is j h = let d = some_made (of_json j) h.1.1 in d.1 ∙ ap (λ o. Some (unwrap_or o serde.null)) (sym d.1)

abbrev whole : Option (Json × List Token) → Option Data
whole o = option_and_then of_json (option_and_then (λ p. json.if_last p.0 p.1) o)

-- what is written of a readable value reads as its data
pub read_printed : (j : Json) → IsReadable j → read (print (json_tokens j)) ≡ Some (data_in j)
read_printed j h =
    ap (λ ts. whole (json.value max_depth ts)) (tokens-print (json_tokens j) (ArePrintable-json_tokens j h.0) ∙ sym (append-nil (json_tokens j)))
    ∙ ap whole (value-json_tokens j max_depth [] h.1.0)
    ∙ data_is j h

-- what is null is so as data
pub null_is : (j : Json) → tree.is_null j ≡ true → serde.null ≡ data_in j
null_is json.null h = refl
null_is (json.boolean b) h = absurd (cc)
null_is (json.number s) h = absurd (cc)
null_is (json.string s) h = absurd (cc)
null_is (json.array js) h = absurd (cc)
null_is (json.object ms) h = absurd (cc)

-- ---- what is found

-- what is found in a value, beside what is found in its data
abbrev Finds : Option Json → Option Data → Type 0
Finds None None = ⊤
Finds None (Some d) = ⊥
Finds (Some j) None = ⊥
Finds (Some j) (Some d) = of_json j ≡ Some d

-- nothing is found by what finds nothing in any data of that form
nothing : {A : Type 0} (f : A → Data) (g : Data → Option Data) → ((a : A) → g (f a) ≡ None) → (o : Option A) (d : Data) → option_map f o ≡ Some d → Finds None (g d)
nothing f g h None d is = absurd (cc)
nothing f g h (Some a) d is = subst (λ e. Finds None (option_and_then g e)) is (subst (Finds None) (sym (h a)) tt)

array_made : (o : Option serde.Items) (d : Data) → option_map serde.array o ≡ Some d → (ds : serde.Items) × ((o ≡ Some ds) × (d ≡ serde.array ds))
array_made None d is = absurd (cc)
array_made (Some ds) d is = (ds, (refl, ap (λ o. unwrap_or o serde.null) (sym is)))

object_made : (o : Option serde.Members) (d : Data) → option_map serde.object o ≡ Some d → (ms : serde.Members) × ((o ≡ Some ms) × (d ≡ serde.object ms))
object_made None d is = absurd (cc)
object_made (Some ms) d is = (ms, (refl, ap (λ o. unwrap_or o serde.null) (sym is)))

-- the data of an item, and of those after it
item_made : (o : Option Data) (p : Option serde.Items) (ds : serde.Items) → option_and_then (λ d. option_map (serde.item d) p) o ≡ Some ds
    → (d : Data) × ((es : serde.Items) × ((o ≡ Some d) × ((p ≡ Some es) × (ds ≡ serde.item d es))))
item_made None p ds is = absurd (cc)
item_made (Some d) None ds is = absurd (cc)
item_made (Some d) (Some es) ds is = (d, (es, (refl, (refl, ap (λ o. unwrap_or o serde.no_items) (sym is)))))

-- the data of a member, and that of those after it
member_made : (o : Option Data) (more : Data → Option serde.Members) (r : serde.Members) → option_and_then more o ≡ Some r → (d : Data) × ((o ≡ Some d) × (more d ≡ Some r))
member_made None more r is = absurd (cc)
member_made (Some d) more r is = (d, (refl, is))

finds_item : (n : ℕ) (js : json.Items) (ds : serde.Items) → of_items js ≡ Some ds → Finds (tree.get_item n js) (found.get_item n ds)
finds_item n json.no_items ds is = subst (λ o. Finds None (option_and_then (found.get_item n) o)) is tt
finds_item zero (json.item j js) ds is =
    let p = item_made (of_json j) (of_items js) ds is in
    subst (λ es. Finds (Some j) (found.get_item zero es)) (sym p.1.1.1.1) p.1.1.0
finds_item (suc n) (json.item j js) ds is =
    let p = item_made (of_json j) (of_items js) ds is in
    subst (λ es. Finds (tree.get_item n js) (found.get_item (suc n) es)) (sym p.1.1.1.1) (finds_item n js p.1.0 p.1.1.1.0)

finds_at : (n : ℕ) (j : Json) (d : Data) → of_json j ≡ Some d → Finds (tree.at n j) (found.at n d)
finds_at n json.null d is = subst (λ o. Finds None (option_and_then (found.at n) o)) is tt
finds_at n (json.boolean b) d is = subst (λ o. Finds None (option_and_then (found.at n) o)) is tt
finds_at n (json.number s) d is = nothing serde.number (found.at n) (λ _. refl) (number_of s) d is
finds_at n (json.string s) d is = subst (λ o. Finds None (option_and_then (found.at n) o)) is tt
finds_at n (json.array js) d is = let p = array_made (of_items js) d is in subst (λ e. Finds (tree.get_item n js) (found.at n e)) (sym p.1.1) (finds_item n js p.0 p.1.0)
finds_at n (json.object ms) d is = nothing serde.object (found.at n) (λ _. refl) (of_members ms serde.no_members) d is

-- what is under a key, after members were added to older ones
abbrev Puts : Option Json → Option Data → Option Data → Type 0
Puts None old new = new ≡ old
Puts (Some j) old new = (d : Data) × ((of_json j ≡ Some d) × (new ≡ Some d))

module _ (k name : List ℕ) (j : Json) (d : Data) (is : of_json j ≡ Some d) (old : serde.Members) (new : Option Data) where
  puts_one : (later : Option Json) (b : Bool) → bytes_eq name k ≡ b → Puts later (found.get_member k (put name d old)) new → Puts (tree.later_or later (cond b (Some j) None)) (found.get_member k old) new
  puts_one (Some i) b same h = h
  puts_one None true same h = (d, (is, h ∙ ap (λ l. found.get_member l (put name d old)) (sym ((bytes_eq-Decides name k).0 same)) ∙ get_member-put name d old))
  puts_one None false same h = h ∙ get_member-put_other k name d old (λ is. true≢false (sym ((bytes_eq-Decides name k).1 (sym is)) ∙ same))

puts_members : (k : List ℕ) (ms : json.Members) (old r : serde.Members) → of_members ms old ≡ Some r → Puts (tree.get_member k ms) (found.get_member k old) (found.get_member k r)
puts_members k json.no_members old r is = ap (λ o. option_and_then (found.get_member k) o) (sym is)
puts_members k (json.member name j ms) old r is =
    let p = member_made (of_json j) (λ d. of_members ms (put name d old)) r is in
    puts_one k name j p.0 p.1.0 old (found.get_member k r) (tree.get_member k ms) (bytes_eq name k) refl (puts_members k ms (put name p.0 old) r p.1.1)

finds_put : (o : Option Json) (new : Option Data) → Puts o None new → Finds o new
finds_put None new h = subst (Finds None) (sym h) tt
finds_put (Some j) new h = subst (Finds (Some j)) (sym h.1.1) h.1.0

finds_get : (k : List ℕ) (j : Json) (d : Data) → of_json j ≡ Some d → Finds (tree.get k j) (found.get k d)
finds_get k json.null d is = subst (λ o. Finds None (option_and_then (found.get k) o)) is tt
finds_get k (json.boolean b) d is = subst (λ o. Finds None (option_and_then (found.get k) o)) is tt
finds_get k (json.number s) d is = nothing serde.number (found.get k) (λ _. refl) (number_of s) d is
finds_get k (json.string s) d is = subst (λ o. Finds None (option_and_then (found.get k) o)) is tt
finds_get k (json.array js) d is = nothing serde.array (found.get k) (λ _. refl) (of_items js) d is
finds_get k (json.object ms) d is =
    let p = object_made (of_members ms serde.no_members) d is in
    subst (λ e. Finds (tree.get_member k ms) (found.get k e)) (sym p.1.1) (finds_put (tree.get_member k ms) _ (puts_members k ms serde.no_members p.0 p.1.0))

-- ---- a part nests no deeper than the whole

abbrev Within : ℕ → Option Json → Type 0
Within n None = ⊤
Within n (Some j) = depth j ≤ n

within_more : (m n : ℕ) (o : Option Json) → m ≤ n → Within m o → Within n o
within_more m n None le h = tt
within_more m n (Some j) le h = omega arith

within_items : (n : ℕ) (js : json.Items) → Within (items_depth js) (tree.get_item n js)
within_items n json.no_items = tt
within_items zero (json.item j js) = omega arith
within_items (suc n) (json.item j js) = within_more (items_depth js) _ (tree.get_item n js) (omega arith) (within_items n js)

within_either : (later : Option Json) (b : Bool) (j : Json) (n : ℕ) → Within n later → depth j ≤ n → Within n (tree.later_or later (cond b (Some j) None))
within_either (Some i) b j n h le = h
within_either None true j n h le = le
within_either None false j n h le = tt

within_members : (k : List ℕ) (ms : json.Members) → Within (members_depth ms) (tree.get_member k ms)
within_members k json.no_members = tt
within_members k (json.member name j ms) = within_either (tree.get_member k ms) _ j _ (within_more (members_depth ms) _ (tree.get_member k ms) (omega arith) (within_members k ms)) (omega arith)

within_at : (n : ℕ) (j : Json) → Within (depth j) (tree.at n j)
within_at n json.null = tt
within_at n (json.boolean b) = tt
within_at n (json.number s) = tt
within_at n (json.string s) = tt
within_at n (json.array js) = within_more (items_depth js) _ (tree.get_item n js) (omega arith) (within_items n js)
within_at n (json.object ms) = tt

within_get : (k : List ℕ) (j : Json) → Within (depth j) (tree.get k j)
within_get k json.null = tt
within_get k (json.boolean b) = tt
within_get k (json.number s) = tt
within_get k (json.string s) = tt
within_get k (json.array js) = tt
within_get k (json.object ms) = within_more (members_depth ms) _ (tree.get_member k ms) (omega arith) (within_members k ms)

-- ---- parts of a readable value

found_some : (j : Json) (o : Option Data) → Finds (Some j) o → (is_some (of_json j) ≡ true) × (Some (data_in j) ≡ o)
found_some j None h = absurd h
found_some j (Some d) h = (ap is_some h, ap (λ o. Some (unwrap_or o serde.null)) h)

found_none : (o : Option Data) → Finds None o → None ≡ o
found_none None h = refl
found_none (Some d) h = absurd h

-- A part that is found is readable, and its data is found in the data.
pub part_at : (n : ℕ) (j part : Json) → IsReadable j → Some part ≡ tree.at n j → IsReadable part × (Some (data_in part) ≡ found.at n (data_in j))
part_at n j part h e =
    let p = found_some part (found.at n (data_in j)) (subst (λ o. Finds o (found.at n (data_in j))) (sym e) (finds_at n j (data_in j) (data_is j h))) in
    let shallow = subst (Within (depth j)) (sym e) (within_at n j) in
    ((HasNumbers-at n j part h.0 e, (omega (arith, shallow, h.1.0), p.0)), p.1)

pub part_of : (k : List ℕ) (j part : Json) → IsReadable j → Some part ≡ tree.get k j → IsReadable part × (Some (data_in part) ≡ found.get k (data_in j))
part_of k j part h e =
    let p = found_some part (found.get k (data_in j)) (subst (λ o. Finds o (found.get k (data_in j))) (sym e) (finds_get k j (data_in j) (data_is j h))) in
    let shallow = subst (Within (depth j)) (sym e) (within_get k j) in
    ((HasNumbers-get k j part h.0 e, (omega (arith, shallow, h.1.0), p.0)), p.1)

pub none_at : (n : ℕ) (j : Json) → IsReadable j → None ≡ tree.at n j → None ≡ found.at n (data_in j)
none_at n j h e = found_none _ (subst (λ o. Finds o (found.at n (data_in j))) (sym e) (finds_at n j (data_in j) (data_is j h)))

pub none_of : (k : List ℕ) (j : Json) → IsReadable j → None ≡ tree.get k j → None ≡ found.get k (data_in j)
none_of k j h e = found_none _ (subst (λ o. Finds o (found.get k (data_in j))) (sym e) (finds_get k j (data_in j) (data_is j h)))

-- ---- lists

items_len-of_items : (vs : List (Value Global)) (ds : serde.Items) → of_items (items_view vs) ≡ Some ds → length vs ≡ items_len ds
items_len-of_items [] ds is = ap (λ o. items_len (unwrap_or o serde.no_items)) is
items_len-of_items (v ∷ vs) ds is =
    let p = item_made (of_json (value_view v)) (of_items (items_view vs)) ds is in
    ap suc (items_len-of_items vs p.1.0 p.1.1.1.0) ∙ ap items_len (sym p.1.1.1.1)

-- the data of a readable array has as many items
pub items_len-readable : (vs : List (Value Global)) → IsReadable (json.array (items_view vs)) → Some (length vs) ≡ option_map items_len (found.as_array (data_in (json.array (items_view vs))))
items_len-readable vs h =
    let j = json.array (items_view vs) in
    let p = array_made (of_items (items_view vs)) (data_in j) (data_is j h) in
    ap (λ n. Some n) (items_len-of_items vs p.0 p.1.0) ∙ ap (λ d. option_map items_len (found.as_array d)) (sym p.1.1)

-- ---- members

abbrev pub Member : Type 0
Member = Bor (List ℕ) × Value Global

abbrev pub AreReadable : List Member → Type 0
AreReadable [] = ⊤
AreReadable (m ∷ ms) = IsReadable (value_view m.1) × AreReadable ms

are_readable : (ms : List Member) (old r : serde.Members) → MembersHaveNumbers (members_view ms) → members_depth (members_view ms) ≤ max_depth → of_members (members_view ms) old ≡ Some r → AreReadable ms
are_readable [] old r numbers shallow is = tt
are_readable (m ∷ ms) old r numbers shallow is =
    let p = member_made (of_json (value_view m.1)) (λ d. of_members (members_view ms) (put m.0.now d old)) r is in
    ((numbers.0, (omega (arith, shallow), ap is_some p.1.0)), are_readable ms (put m.0.now p.0 old) r numbers.1 (omega (arith, shallow)) p.1.1)

-- the members of a readable object are readable
pub members_readable : (ms : List Member) → IsReadable (json.object (members_view ms)) → AreReadable ms
members_readable ms h =
    let j = json.object (members_view ms) in
    let p = object_made (of_members (members_view ms) serde.no_members) (data_in j) (data_is j h) in
    are_readable ms serde.no_members p.0 h.0 (omega (arith, h.1.0)) p.1.0

-- a member that is put next
pub next_put : (m : Member) (ms : List Member) (old : serde.Members) → IsReadable (value_view m.1) → of_members (members_view (m ∷ ms)) old ≡ of_members (members_view ms) (put m.0.now (data_in (value_view m.1)) old)
next_put m ms old h = rw (data_is (value_view m.1) h) refl

-- once all members are put, they are the data
pub all_put : (ms : List Member) (r : serde.Members) → IsReadable (json.object (members_view ms)) → of_members (members_view ms) serde.no_members ≡ Some r → Some r ≡ found.as_object (data_in (json.object (members_view ms)))
all_put ms r h is =
    let j = json.object (members_view ms) in
    let p = object_made (of_members (members_view ms) serde.no_members) (data_in j) (data_is j h) in
    sym is ∙ p.1.0 ∙ ap found.as_object (sym p.1.1)
