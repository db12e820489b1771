-- A map whose groups are known, and one item more.
use Rattle.std.proofs.Common.{◌≡◌, ◌++◌, List, [], ◌∷◌, Bor, Option, Some, None, BTreeMap, map, nat_cmp, option_map, vec_len, refl, sym, ap, ◌∙◌, subst}
use Rattle.std.proofs.lemmas.List.Elements.{All-contains}
use Rattle.std.proofs.lemmas.Map.Entries.{place_from_lookup}
use Rattle.std.proofs.lemmas.Map.Text.{is_eq-slice_cmp}
use Rattle.std.proofs.lemmas.Map.Views.{All-found}
use Rattle.std.proofs.lemmas.Simd.{map-map}
use Rattle.std.proofs.lemmas.Slice.Eq.{bytes_eq-Decides}
use Rattle.std.specs.BTreeMap.{IsEmpty, IsOrdered, Updates, get}
use Rattle.std.specs.Cmp.Lexicographic.{slice_cmp}
use Rattle.std.specs.Global.{Vec}
use Rattle.std.specs.List.Sorted.{IsStrictlySortedBy}
use Rattle.std.specs.Option.{UnwrapsOrElse}
use Rattle.std.specs.Ordering.{is_eq}
use Rattle.krates_cm.specs.Document.{Text}
use Rattle.krates_rules.proofs.Members.{Member, member_of, contains_of, member_map, mapped_of}
use Rattle.krates_drawing.proofs.Tests.{sorted_as}
use Rattle.krates_answers.specs.Grouped.{AreGroups, Group, group_view, groups_in, items_under}
use Rattle.krates_answers.proofs.GroupedLemmas.{are_groups}
use Rattle.krates_answers.proofs.HeldPairs.{text_order, text_order_total, value_under, items_of, HoldsPairs, holds_none, holds_more, so_far}
use Rattle.krates_answers.proofs.IfAny.{if_any, if_any-full, if_any-empty, some_is_none, member_from_place}
use Rattle.krates_answers.proofs.ItemsUnder.{key_of_item, item_of_key}

pub ordered_by_groups : {T : Type 0} (pairs : List (Text × T)) (m : BTreeMap (Bor Text) (Vec T)) → AreGroups pairs (groups_in m) → IsOrdered text_order m
ordered_by_groups {T} pairs m groups =
    sorted_as (slice_cmp nat_cmp) text_order (λ (e : Bor Text × Vec T). e.0.now) (λ e. e.0) (λ a b. refl) m.entries
    (subst (IsStrictlySortedBy (slice_cmp nat_cmp)) (map-map (λ (g : Group T). g.key) group_view m.entries) groups.ascending)

module _ {T : Type 0} (pairs : List (Text × T)) (m : BTreeMap (Bor Text) (Vec T)) (groups : AreGroups pairs (groups_in m)) where
  -- what is found under a key is the items with it
  some_held : (q : Text) (v : Vec T) → value_under m q ≡ Some v → Some v.items ≡ if_any (items_under q pairs)
  some_held q v found =
      let place = place_from_lookup (λ (k : Bor Text). is_eq (slice_cmp nat_cmp q k.now)) m.entries v found in
      let k = place.1 in
      let among : Member m.entries (k, v) = member_from_place m.entries place.0 (k, v) place.2 in
      let same : q ≡ k.now = (bytes_eq-Decides q k.now).0 (sym (is_eq-slice_cmp q k.now) ∙ place.3) in
      let is : v.items ≡ items_under k.now pairs = All-contains (λ (g : Group T). g.items ≡ items_under g.key pairs) (groups_in m) (group_view (k, v)) groups.each
      (contains_of (groups_in m) (group_view (k, v)) (member_map group_view m.entries (k, v) among)) in
      let key : Member (map (λ (g : Group T). g.key) (groups_in m)) k.now = member_map (λ (g : Group T). g.key) (groups_in m) (group_view (k, v)) (member_map group_view m.entries (k, v) among) in
      let there = member_of (map (λ (p : Text × T). p.0) pairs) k.now ((groups.exactly k.now).0 (contains_of (map (λ (g : Group T). g.key) (groups_in m)) k.now key)) in
      let item = item_of_key k.now pairs there in
      ap Some is ∙ sym (if_any-full (items_under k.now pairs) item.0 item.1) ∙ ap (λ t. if_any (items_under t pairs)) (sym same)

  -- where nothing is found under a key, no pair has it
  none_held : (q : Text) → value_under m q ≡ None → None ≡ if_any (items_under q pairs)
  none_held q absent = sym (if_any-empty (items_under q pairs) (λ item among.
      let there = key_of_item q pairs item among in
      let key = member_of (map (λ (g : Group T). g.key) (groups_in m)) q ((groups.exactly q).1 (contains_of (map (λ (p : Text × T). p.0) pairs) q there)) in
      let group = mapped_of (λ (g : Group T). g.key) (groups_in m) q key in
      let entry = mapped_of group_view m.entries group.from group.member in
      let e = entry.from in
      let is : e.0.now ≡ q = ap (λ (g : Group T). g.key) entry.is ∙ group.is in
      let found = All-contains (λ e. get text_order m e.0 ≡ Some e.1) m.entries e (All-found text_order_total m (ordered_by_groups pairs m groups)) (contains_of m.entries e entry.member) in
      let none : value_under m e.0.now ≡ None = subst (λ (t : Text). value_under m t ≡ None) (sym is) absent in
      absurd (some_is_none (value_under m e.0.now) e.1 found none)))

  held_case : (q : Text) (found : Option (Vec T)) → value_under m q ≡ found → option_map items_of found ≡ if_any (items_under q pairs)
  held_case q None is = none_held q is
  held_case q (Some v) is = some_held q v is

  pub holds_by_groups : HoldsPairs pairs m
  holds_by_groups q = held_case q (value_under m q) refl

-- ---- one more item

pub none_grouped : {T : Type 0} (m : BTreeMap (Bor Text) (Vec T)) → IsEmpty m → AreGroups {T = T} [] (groups_in m)
unfolding IsStrictlySortedBy
none_grouped {T} m empty = are_groups {T = T} [] m (holds_none m empty) (rw empty tt)

-- where writing a value under the key makes a map of each value
pub one_more_grouped : {T : Type 0} (pairs : List (Text × T)) (m : BTreeMap (Bor Text) (Vec T)) (key : Bor Text) (item : T) (old : Option (Vec T)) (before after : Vec T) (with_value : Vec T → BTreeMap (Bor Text) (Vec T))
    → AreGroups pairs (groups_in m) → old ≡ value_under m key.now → UnwrapsOrElse old (λ made. (made.items ≡ []) × (vec_len made ≡ 0)) before → after.items ≡ before.items ++ item ∷ []
    → Updates text_order m (with_value after) key (Some after) → IsOrdered text_order (with_value after) → (n : BTreeMap (Bor Text) (Vec T)) → n ≡ with_value after → AreGroups (pairs ++ (key.now, item) ∷ []) (groups_in n)
one_more_grouped pairs m key item old before after with_value groups value made pushed updates ordered n is =
    let holds = holds_by_groups pairs m groups in
    let so = so_far pairs key.now old before (ap (option_map items_of) value ∙ holds key.now) made in
    let more = are_groups (pairs ++ (key.now, item) ∷ []) (with_value after) (holds_more pairs m (with_value after) key item after holds (pushed ∙ ap (λ xs. xs ++ item ∷ []) so) updates) ordered in
    rw is more
