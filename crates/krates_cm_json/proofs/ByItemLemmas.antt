-- Values that are read from tokens, one after another.
use Rattle.std.proofs.Common.{◌≡◌, ◌≤◌, ◌<◌, ℕ, suc, List, [], ◌∷◌, ◌++◌, length, true, false, cond, Option, Some, None, option_map, option_and_then, is_some, bytes_eq, append-nil, append_assoc, length-append, refl, sym, ap, ◌∙◌, arith}
use Rattle.json.proofs.Printed.Trees.{value-json_tokens}
use Rattle.json.proofs.Trees.{get_member-push}
use Rattle.json.specs.Find as tree
use Rattle.json.specs.Json as json
use Rattle.json.specs.Json.{Json}
use Rattle.json.specs.Lex.{tokens}
use Rattle.json.specs.Token.{Token}
use Rattle.json.specs.Tree.{items_depth, members_depth, json_tokens, items_tokens, members_tokens, ItemsHaveNumbers, MembersHaveNumbers}
use Rattle.json.specs.Value.{value_view, members_view}
use Rattle.serde_json.specs.Data as serde
use Rattle.serde_json.specs.Data.{Data}
use Rattle.serde_json.specs.Find as found
use Rattle.serde_json.specs.Read.{of_json, of_items, of_members, max_depth, read}
use Rattle.krates_cm_json.specs.ByItem.{IsShallow, ReadsNext, Member, AreShallow, Lacks, member_tokens, joined}
use Rattle.krates_cm_json.specs.Readable.{IsReadable, AreMembersInRange, data_in}
use Rattle.krates_cm_json.specs.Reading.{Reading, Reader, items, list}
use Rattle.krates_cm_json.proofs.RangeLemmas.{member_in_range}
use Rattle.krates_cm_json.proofs.ReadableLemmas.{data_is, part_of, none_of}

-- ---- items

some_token : (j : Json) → 0 < length (json_tokens j)
some_token json.null = omega arith
some_token (json.boolean b) = omega arith
some_token (json.number s) = omega arith
some_token (json.string s) = omega arith
some_token (json.array js) = omega arith
some_token (json.object ms) = omega arith

-- what is read takes a token at least
pub next_shorter : (j : Json) (before after : List Token) → before ≡ json_tokens j ++ after → length after < length before
next_shorter j before after is = omega (arith, ap length is, length-append (json_tokens j) after, some_token j)

-- The tokens begin with the items of an array and the bracket that closes it, and what is read from the items is xs.
abbrev pub ReadsItems : {A : Type 0} → (Data → Reading A) → List Token → List A → List Token → Type 0
ReadsItems read before xs after = (js : json.Items) × ItemsHaveNumbers js × (items_depth js ≤ 124) × (before ≡ items_tokens js ++ after)
    × ((ds : serde.Items) × (of_items js ≡ Some ds) × ((items read ds).value ≡ Some xs))

-- no item is left
pub no_item_next : {A : Type 0} (reading : Data → Reading A) (after : List Token) → ReadsItems reading (Token.end_array ∷ after) [] after
no_item_next reading after = (json.no_items, tt, omega arith, refl, (serde.no_items, refl, refl))

-- an item before others
pub item_next : {A : Type 0} (read : Data → Reading A) (before between after : List Token) (x : A) (xs : List A) → ReadsNext 124 read before x between → ReadsItems read between xs after
    → ReadsItems read before (x ∷ xs) after
item_next reading before between after x xs (j, shallow, is, read_is) (js, numbers, deep, rest_is, (ds, made, rest_read)) =
    let d_is = data_is j shallow.0 in (
      json.item j js,
      (shallow.0.0, numbers),
      omega (arith, shallow.1, deep),
      is ∙ ap (λ ts. json_tokens j ++ ts) rest_is ∙ sym (append_assoc (json_tokens j) (items_tokens js) after),
      (serde.item (data_in j) ds, rw (d_is, made) refl, rw (read_is, rest_read) refl),
    )

array_data : (js : json.Items) (ds : serde.Items) → of_items js ≡ Some ds → data_in (json.array js) ≡ serde.array ds
array_data js ds made = rw made refl

-- the array of these items
pub array_next : {A : Type 0} (read : Reader A) (key : List ℕ) (before after : List Token) (xs : List A) → ReadsItems (read key) before xs after
    → ReadsNext 125 (list read key) (Token.begin_array ∷ before) xs after
array_next reader key before after xs (js, numbers, deep, is, (ds, made, read_is)) =
    let in_range : is_some (of_json (json.array js)) ≡ true = rw made refl in
    (json.array js, ((numbers, (omega (arith, deep), in_range)), omega (arith, deep)), ap (λ ts. Token.begin_array ∷ ts) is, rw (array_data js ds made) read_is)

-- ---- members

pub member_tokens-push : (ms : List Member) (m : Member) (after : List Token) → member_tokens (ms ++ m ∷ []) ++ after ≡ member_tokens ms ++ (Token.key m.0.now ∷ (json_tokens (value_view m.1) ++ after))
member_tokens-push [] m after = ap (λ ts. Token.key m.0.now ∷ (ts ++ after)) (append-nil (json_tokens (value_view m.1)))
member_tokens-push (n ∷ ms) m after =
    let ts = json_tokens (value_view n.1) in
    ap (λ l. Token.key n.0.now ∷ l) (append_assoc ts (member_tokens (ms ++ m ∷ [])) after ∙ ap (λ l. ts ++ l) (member_tokens-push ms m after) ∙ sym (append_assoc ts (member_tokens ms) _))

pub AreShallow-append : (n : ℕ) (ms others : List Member) → AreShallow n ms → AreShallow n others → AreShallow n (ms ++ others)
AreShallow-append n [] others h k = k
AreShallow-append n (m ∷ ms) others h k = (h.0, AreShallow-append n ms others h.1 k)

pub joined-tokens : (ms : List Member) (others : json.Members) → members_tokens (joined ms others) ≡ member_tokens ms ++ members_tokens others
joined-tokens [] others = refl
joined-tokens (m ∷ ms) others =
    let ts = json_tokens (value_view m.1) in
    ap (λ l. Token.key m.0.now ∷ (ts ++ l)) (joined-tokens ms others) ∙ ap (λ l. Token.key m.0.now ∷ l) (sym (append_assoc ts (member_tokens ms) (members_tokens others)))

pub joined-push : (ms : List Member) (m : Member) → members_view (ms ++ m ∷ []) ≡ joined ms (json.member m.0.now (value_view m.1) json.no_members)
joined-push [] m = refl
joined-push (n ∷ ms) m = ap (json.member n.0.now (value_view n.1)) (joined-push ms m)

-- nor has one member more this name
pub lacks_push : (k : List ℕ) (ms : List Member) (m : Member) → Lacks k ms → bytes_eq m.0.now k ≡ false → Lacks k (ms ++ m ∷ [])
lacks_push k ms m lacks differs = get_member-push k ms m ∙ ap (λ b. cond b (Some (value_view m.1)) (tree.get_member k (members_view ms))) differs ∙ lacks

-- members that nest at most so deep, and that are read
abbrev pub AreReadableMembers : ℕ → json.Members → Type 0
AreReadableMembers n ms = MembersHaveNumbers ms × ((members_depth ms ≤ n) × AreMembersInRange ms)

pub readable_member : (n : ℕ) (k : List ℕ) (j : Json) (ms : json.Members) → IsShallow n j → AreReadableMembers n ms → AreReadableMembers n (json.member k j ms)
readable_member n k j ms h all = ((h.0.0, all.0), (omega (arith, h.1, all.1.0), (member_in_range k j ms).1 (h.0.1.1, all.1.1)))

pub readable_joined : (n m : ℕ) (ms : List Member) (others : json.Members) → m ≤ n → AreShallow m ms → AreReadableMembers n others → AreReadableMembers n (joined ms others)
readable_joined n m [] others le h all = all
readable_joined n m (k ∷ ms) others le h all =
    readable_member n k.0.now (value_view k.1) (joined ms others) (h.0.0, omega (arith, le, h.0.1)) (readable_joined n m ms others le h.1 all)

pub no_member : (n : ℕ) → AreReadableMembers n json.no_members
no_member n = (tt, (omega arith, refl))

some_map : {A B : Type 0} (f : A → B) (o : Option A) → is_some o ≡ true → is_some (option_map f o) ≡ true
some_map f None h = absurd (cc)
some_map f (Some a) h = refl

-- the object of such members
pub readable_object : (n : ℕ) (ms : json.Members) → n < 127 → AreReadableMembers n ms → IsShallow (suc n) (json.object ms)
readable_object n ms le all =
    ((all.0, (omega (arith, le, all.1.0), some_map serde.object (of_members ms serde.no_members) all.1.1)), omega (arith, all.1.0))

-- an empty list
pub no_list : (n : ℕ) → 0 < n → n ≤ 127 → IsShallow n (json.array json.no_items)
no_list n some le = ((tt, (omega arith, refl)), omega arith)

-- members, and an empty list under one key more
pub readable_beside : (n : ℕ) (ms : List Member) (k : List ℕ) → 124 ≤ n → n < 127 → AreShallow 124 ms
    → IsShallow (suc n) (json.object (joined ms (json.member k (json.array json.no_items) json.no_members)))
readable_beside n ms k le less h =
    readable_object n _ less (readable_joined n 124 ms _ le h (readable_member n k (json.array json.no_items) json.no_members (no_list n (omega (arith, le)) (omega (arith, less))) (no_member n)))

-- ---- what is under a key

pub later_assoc : (a b c : Option Json) → tree.later_or (tree.later_or a b) c ≡ tree.later_or a (tree.later_or b c)
later_assoc None b c = refl
later_assoc (Some j) b c = refl

pub none_earlier : (o : Option Json) → o ≡ tree.later_or o None
none_earlier None = refl
none_earlier (Some j) = refl

pub get_joined : (k : List ℕ) (ms : List Member) (others : json.Members) → tree.get_member k (joined ms others) ≡ tree.later_or (tree.get_member k others) (tree.get_member k (members_view ms))
get_joined k [] others = none_earlier (tree.get_member k others)
get_joined k (m ∷ ms) others =
    let one = cond (bytes_eq m.0.now k) (Some (value_view m.1)) None in
    ap (λ o. tree.later_or o one) (get_joined k ms others) ∙ later_assoc (tree.get_member k others) (tree.get_member k (members_view ms)) one

pub get_append : (k : List ℕ) (ms others : List Member) → tree.get_member k (members_view (ms ++ others)) ≡ tree.later_or (tree.get_member k (members_view others)) (tree.get_member k (members_view ms))
get_append k [] others = none_earlier (tree.get_member k (members_view others))
get_append k (m ∷ ms) others =
    let one = cond (bytes_eq m.0.now k) (Some (value_view m.1)) None in
    ap (λ o. tree.later_or o one) (get_append k ms others) ∙ later_assoc (tree.get_member k (members_view others)) (tree.get_member k (members_view ms)) one

seen_by : (k : List ℕ) (i j : Json) (o : Option Json) → IsReadable i → IsReadable j → tree.get k i ≡ o → tree.get k j ≡ o → found.get k (data_in i) ≡ found.get k (data_in j)
seen_by k i j None h l a b = sym (none_of k i h (sym a)) ∙ none_of k j l (sym b)
seen_by k i j (Some part) h l a b = sym (part_of k i part h (sym a)).1 ∙ (part_of k j part l (sym b)).1

-- two objects with the same under a key have the same data there
pub same_data : (k : List ℕ) (i j : Json) → IsReadable i → IsReadable j → tree.get k i ≡ tree.get k j → found.get k (data_in i) ≡ found.get k (data_in j)
same_data k i j h l is = seen_by k i j (tree.get k j) h l is refl

-- ---- the text

-- tokens that are those of one value are those of a text that is read
pub read_whole_text : {A : Type 0} (reading : Data → Reading A) (text : List ℕ) (x : A) → ReadsNext 127 reading (tokens text) x [] → (d : Data) × (read text ≡ Some d) × ((reading d).value ≡ Some x)
read_whole_text reading text x (j, shallow, is, read_is) =
    let one = value-json_tokens j 127 [] shallow.1 in (
      data_in j,
      ap (λ ts. option_and_then of_json (option_and_then (λ p. json.if_last p.0 p.1) (json.value max_depth ts))) is
          ∙ ap (λ o. option_and_then of_json (option_and_then (λ p. json.if_last p.0 p.1) o)) one ∙ data_is j shallow.0,
      read_is,
    )
