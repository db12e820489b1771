-- A map that is read entry by entry, in the order of its keys.
use Rattle.std.proofs.Common.{◌≡◌, ℕ, List, [], ◌∷◌, ◌++◌, Option, Some, map, String, Global, Ordering, Less, Greater, string_bytes, string_cmp, nat_cmp, refl, sym, ap, ◌∙◌}
use Rattle.std.proofs.lemmas.Cmp.{nat_list_cmp_total}
use Rattle.std.proofs.lemmas.List.{map-append}
use Rattle.std.specs.BTreeMap.{insert_entry}
use Rattle.std.specs.Cmp.Lexicographic.{slice_cmp}
use Rattle.std.specs.List.{AllByRecursion}
use Rattle.std.specs.List.Sorted.{IsStrictlySortedBy}
use Rattle.std.specs.Map.{keys_of}
use Rattle.std.specs.Ordering.{ordering_reverse}
use Rattle.serde_json.specs.Data.{Data, Members, member}
use Rattle.krates_cm_json.specs.Reading.{Reading, map_items}
use Rattle.krates_cm_json.proofs.ListReading.{with_front, regroup}

-- the keys of entries, as texts
abbrev pub key_texts : {X : Type 0} → List (String Global × X) → List (List ℕ)
key_texts es = map (λ e. string_bytes e.0) es

-- a key above all others goes last
insert_last : {Y : Type 0} (made : List (String Global × Y)) (k : String Global) (y : Y) → AllByRecursion (λ x. string_cmp k x ≡ Greater) (keys_of made) → insert_entry string_cmp made k y ≡ made ++ (k, y) ∷ []
insert_last [] k y h = refl
insert_last (m ∷ made) k y h = rw h.0 (ap (λ es. m ∷ es) (insert_last made k y h.1))

-- Entries whose keys read as texts, in the order of these.
module _ {K : Type 0} (text : K → List ℕ) where
  -- the texts of keys
  abbrev pub texts_of : {X : Type 0} → List (K × X) → List (List ℕ)
  texts_of es = map (λ e. text e.0) es

  abbrev text_cmp : K → K → Ordering
  text_cmp a b = slice_cmp nat_cmp (text a) (text b)

  -- the first text is less than each later one
  below_middle : {X : Type 0} (first : K × X) (es : List (K × X)) (e : K × X) (more : List (K × X)) → AllByRecursion (λ y. text_cmp first.0 y ≡ Less) (keys_of (es ++ e ∷ more)) → text_cmp first.0 e.0 ≡ Less
  below_middle first [] e more h = h.0
  below_middle first (x ∷ es) e more h = below_middle first es e more h.1

  -- keys that read as the texts before that of `e` are less than it
  all_below : {X Y : Type 0} (made : List (String Global × Y)) (done : List (K × X)) (e : K × X) (more : List (K × X)) (k : String Global) → string_bytes k ≡ text e.0 → key_texts made ≡ texts_of done
      → IsStrictlySortedBy text_cmp (keys_of (done ++ e ∷ more)) → AllByRecursion (λ y. string_cmp k y ≡ Greater) (keys_of made)
  unfolding IsStrictlySortedBy
  all_below [] done e more k is same h = tt
  all_below (m ∷ made) [] e more k is same h = absurd cc
  all_below (m ∷ made) (d ∷ done) e more k is same h =
      let head : string_bytes m.0 ≡ text d.0 = cc in
      let tail : key_texts made ≡ texts_of done = cc in
      let above : slice_cmp nat_cmp (text e.0) (text d.0) ≡ Greater = nat_list_cmp_total.antisymm (text e.0) (text d.0) ∙ ap ordering_reverse (below_middle d done e more h.0) in
      (rw (is, head) above, all_below made done e more k is tail h.1)

  -- a copy of the next key goes last
  pub inserted : {X Y : Type 0} (made : List (String Global × Y)) (done : List (K × X)) (e : K × X) (more : List (K × X)) (k : String Global) (y : Y) → string_bytes k ≡ text e.0 → key_texts made ≡ texts_of done
      → IsStrictlySortedBy text_cmp (keys_of (done ++ e ∷ more)) → insert_entry string_cmp made k y ≡ made ++ (k, y) ∷ []
  inserted made done e more k y is same h = insert_last made k y (all_below made done e more k is same h)

  -- the texts after one more entry
  pub keys_pushed : {X Y : Type 0} (made : List (String Global × Y)) (done : List (K × X)) (copy : String Global) (y : Y) (e : K × X) → string_bytes copy ≡ text e.0 → key_texts made ≡ texts_of done → key_texts (made ++ (copy, y) ∷ []) ≡ texts_of (done ++ e ∷ [])
  keys_pushed made done copy y e is same = rw (map-append, map-append, is, same) refl

-- an entry, seen by the view of its value
abbrev pub entry_seen : {X A : Type 0} → (X → A) → String Global × X → List ℕ × A
entry_seen seen e = (string_bytes e.0, seen e.1)

-- one more entry was read
pub entry_read : {X A : Type 0} (read : Data → Reading A) (seen : X → A) (made : List (String Global × X)) (copy : String Global) (x : X) (name : List ℕ) (d : Data) (left : Members) (total : Option (List (List ℕ × A)))
    → string_bytes copy ≡ name → (read d).value ≡ Some (seen x)
    → with_front (map (entry_seen seen) made) (map_items read (member name d left)).value ≡ total
    → with_front (map (entry_seen seen) (made ++ (copy, x) ∷ [])) (map_items read left).value ≡ total
entry_read read seen made copy x name d left total is found so_far =
    let one : with_front (map (entry_seen seen) made) (map_items read (member name d left)).value ≡ with_front (map (entry_seen seen) made ++ (name, seen x) ∷ []) (map_items read left).value = rw found (regroup (map (entry_seen seen) made) (name, seen x) (map_items read left).value) in
    rw (map-append, is) (sym one ∙ so_far)
