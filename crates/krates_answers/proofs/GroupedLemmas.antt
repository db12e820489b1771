-- A map that has the items of pairs under their keys: its groups.
use Rattle.std.proofs.Common.{◌≡◌, List, Bool, true, Bor, Some, BTreeMap, All, map, nat_cmp, option_map, refl, sym, ap, ◌∙◌, subst}
use Rattle.std.proofs.lemmas.List.Elements.{All-contains, All-map, All-weaker}
use Rattle.std.proofs.lemmas.Map.Made.{is_some-lookup}
use Rattle.std.proofs.lemmas.Map.Text.{is_eq-slice_cmp}
use Rattle.std.proofs.lemmas.Map.Views.{All-found}
use Rattle.std.proofs.lemmas.Simd.{map-map}
use Rattle.std.proofs.lemmas.Slice.Eq.{bytes_eq-Decides}
use Rattle.std.specs.BTreeMap.{IsOrdered, get}
use Rattle.std.specs.Cmp.Lexicographic.{slice_cmp}
use Rattle.std.specs.Global.{Vec}
use Rattle.std.specs.List.Sorted.{IsStrictlySortedBy}
use Rattle.std.specs.Map.{keys_of}
use Rattle.std.specs.Option.{is_some}
use Rattle.std.specs.Ordering.{is_eq}
use Rattle.krates_cm.specs.Document.{Text}
use Rattle.krates_rules.proofs.Members.{Member, member_of, contains_of, member_map, mapped_of, passing_of}
use Rattle.krates_drawing.proofs.Tests.{sorted_as}
use Rattle.krates_answers.specs.Grouped.{AreGroups, Group, group_view, groups_in, items_under}
use Rattle.krates_answers.proofs.HeldPairs.{text_order, text_order_total, value_under, items_of, HoldsPairs, some_of_map}
use Rattle.krates_answers.proofs.IfAny.{same_if_any, first_of, some_if_any}
use Rattle.krates_answers.proofs.ItemsUnder.{key_of_item, item_of_key}

module _ {T : Type 0} (pairs : List (Text × T)) (m : BTreeMap (Bor Text) (Vec T)) (holds : HoldsPairs pairs m) (ordered : IsOrdered text_order m) where
  each_found : All (λ e. get text_order m e.0 ≡ Some e.1) m.entries
  each_found = All-found text_order_total m ordered

  -- a key of the map is that of a pair
  from_pairs : (q : Text) → Member (map (λ g. g.key) (groups_in m)) q → Member (map (λ p. p.0) pairs) q
  from_pairs q there =
      let group = mapped_of (λ (g : Group T). g.key) (groups_in m) q there in
      let entry = mapped_of group_view m.entries group.from group.member in
      let e = entry.from in
      let is : e.0.now ≡ q = ap (λ (g : Group T). g.key) entry.is ∙ group.is in
      let found = All-contains (λ e. get text_order m e.0 ≡ Some e.1) m.entries e each_found (contains_of m.entries e entry.member) in
      let item = first_of (items_under e.0.now pairs) e.1.items (sym (holds e.0.now) ∙ ap (option_map items_of) found) in
      subst (Member (map (λ (p : Text × T). p.0) pairs)) is (key_of_item e.0.now pairs item.0 item.1)

  -- the key of a pair is one of the map
  in_map : (q : Text) → Member (map (λ p. p.0) pairs) q → Member (map (λ g. g.key) (groups_in m)) q
  in_map q there =
      let item = item_of_key q pairs there in
      let test : Bor Text → Bool = λ k. is_eq (slice_cmp nat_cmp q k.now) in
      let has : is_some (value_under m q) ≡ true = some_of_map (value_under m q) (ap is_some (holds q) ∙ some_if_any (items_under q pairs) item.0 item.1) in
      let key = passing_of test (keys_of m.entries) (sym (is_some-lookup test m.entries) ∙ has) in
      let entry = mapped_of (λ (e : Bor Text × Vec T). e.0) m.entries key.from key.member in
      let same : q ≡ key.from.now = (bytes_eq-Decides q key.from.now).0 (sym (is_eq-slice_cmp q key.from.now) ∙ key.passes) in
      let is : entry.from.0.now ≡ q = ap (λ (k : Bor Text). k.now) entry.is ∙ sym same in
      subst (Member (map (λ (g : Group T). g.key) (groups_in m))) is
      (member_map (λ (g : Group T). g.key) (groups_in m) (group_view entry.from) (member_map group_view m.entries entry.from entry.member))

  pub are_groups : AreGroups pairs (groups_in m)
  are_groups = record {
    ascending = subst (IsStrictlySortedBy (slice_cmp nat_cmp)) (sym (map-map (λ (g : Group T). g.key) group_view m.entries))
        (sorted_as text_order (slice_cmp nat_cmp) (λ (e : Bor Text × Vec T). e.0) (λ e. e.0.now) (λ a b. refl) m.entries ordered);
    exactly = λ q. (
      λ c. contains_of (map (λ (p : Text × T). p.0) pairs) q (from_pairs q (member_of (map (λ (g : Group T). g.key) (groups_in m)) q c)),
      λ c. contains_of (map (λ (g : Group T). g.key) (groups_in m)) q (in_map q (member_of (map (λ (p : Text × T). p.0) pairs) q c)),
    );
    each = All-map (λ (g : Group T). g.items ≡ items_under g.key pairs) group_view m.entries
        (All-weaker (λ e. get text_order m e.0 ≡ Some e.1) (λ e. e.1.items ≡ items_under e.0.now pairs)
        (λ e found. same_if_any e.1.items (items_under e.0.now pairs) (sym (ap (option_map items_of) found) ∙ holds e.0.now)) m.entries each_found);
  }
