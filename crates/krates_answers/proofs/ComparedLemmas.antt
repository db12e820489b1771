-- What a map of parts by name finds.
use Rattle.std.proofs.Common.{◌≡◌, ◌∙◌, ◌↔◌, ◌++◌, ◌∷◌, [], List, Bool, true, false, IsTrue, Bor, BTreeMap, Contains, Option, None, Some, map, filter, bytes_eq, option_map, refl, sym, ap, subst}
use Rattle.std.proofs.lemmas.List.{map-append}
use Rattle.std.proofs.lemmas.Slice.Eq.{bytes_eq-Decides}
use Rattle.std.specs.Global.{Vec}
use Rattle.krates_cm.specs.Document.{Text}
use Rattle.krates_rules.proofs.Members.{Member, contains_of, kept_of, mapped_of, member_filter, member_map, member_of}
use Rattle.krates_answers.specs.Compared.{HasSame, HoldsNamed, with_name}
use Rattle.krates_answers.specs.Grouped.{AreGroups, groups_in, items_under}
use Rattle.krates_answers.proofs.GroupsSeen.{items_under-seen}
use Rattle.krates_answers.proofs.HeldPairs.{items_of, value_under}
use Rattle.krates_answers.proofs.IfAny.{if_any, none_if_any, same_if_any}
use Rattle.krates_answers.proofs.OneMoreGrouped.{holds_by_groups}

-- one part more, under its name
pub one_part_more : {T : Type 0} (named : T → Text) (parts more : List T) (last : Bor T) (m n : BTreeMap (Bor Text) (Vec (Bor T))) (key : Text) → HoldsNamed named parts m
    → ((items : List (Text × Bor T)) → AreGroups items (groups_in m) → AreGroups (items ++ (key, last) ∷ []) (groups_in n)) → more ≡ parts ++ last.now ∷ [] → key ≡ named last.now → HoldsNamed named more n
one_part_more {T} named parts more last m n key held put is name =
    let seen : Text × Bor T → Text × T = λ p. (p.0, p.1.now) in record {
      borrowed = held.borrowed ++ (key, last) ∷ [];
      groups = put held.borrowed held.groups;
      seen = map-append seen held.borrowed ((key, last) ∷ []) ∙ ap (λ front. front ++ (key, last.now) ∷ []) held.seen ∙ (λ i. map (with_name named) parts ++ (name i, last.now) ∷ [])
          ∙ sym (map-append (with_name named) parts (last.now ∷ [])) ∙ ap (map (with_name named)) (sym is);
    }

module _ {T : Type 0} (named : T → Text) (parts : List T) (m : BTreeMap (Bor Text) (Vec (Bor T))) (held : HoldsNamed named parts m) where
  abbrev pairs : List (Text × T)
  pairs = map (with_name named) parts

  -- what is borrowed under a name, as it is
  under : (q : Text) → map (λ (x : Bor T). x.now) (items_under q held.borrowed) ≡ items_under q pairs
  under q = items_under-seen (λ (x : Bor T). x.now) q held.borrowed ∙ ap (items_under q) held.seen

  from_under : (q : Text) (y : T) → Member (items_under q pairs) y → Member parts y
  from_under q y m =
      let pair = mapped_of (λ (p : Text × T). p.1) (filter (λ p. bytes_eq q p.0) pairs) y m in
      let kept = kept_of (λ (p : Text × T). bytes_eq q p.0) pairs pair.from pair.member in
      let part = mapped_of (with_name named) parts pair.from kept.0 in
      subst (Member parts) (ap (λ (p : Text × T). p.1) part.is ∙ pair.is) part.member

  to_under : (y : T) → Member parts y → Member (items_under (named y) pairs) y
  to_under y m =
      let passes : bytes_eq (named y) (named y) ≡ true = (bytes_eq-Decides (named y) (named y)).1 refl in
      member_map (λ (p : Text × T). p.1) (filter (λ p. bytes_eq (named y) p.0) pairs) (named y, y)
      (member_filter (λ (p : Text × T). bytes_eq (named y) p.0) pairs (named y, y) passes (member_map (with_name named) parts y m))

  module _ (MeansSame : Text → T → Text → T → Type 0) (one_name : (r s : Text) (x y : T) → MeansSame r x s y → named x ≡ named y) (root other_root : Text) (part : T) where
    -- what is found under the name has what means the same, if anything has
    pub among_found : (v : Vec (Bor T)) (b : Bool) → Some v ≡ value_under m (named part) → (IsTrue b ↔ HasSame MeansSame root part other_root (map (λ (x : Bor T). x.now) v.items))
        → IsTrue b ↔ HasSame MeansSame root part other_root parts
    among_found v b found told =
        let is : v.items ≡ items_under (named part) held.borrowed = same_if_any v.items (items_under (named part) held.borrowed) (ap (option_map items_of) found ∙ holds_by_groups held.borrowed m held.groups (named part)) in
        let same : map (λ (x : Bor T). x.now) v.items ≡ items_under (named part) pairs = ap (map (λ (x : Bor T). x.now)) is ∙ under (named part) in (
          λ t.
              (let h = told.0 t in
              let there = subst (λ (xs : List T). Member xs h.other) same (member_of (map (λ (x : Bor T). x.now) v.items) h.other h.among) in
              record { other = h.other; among = contains_of parts h.other (from_under (named part) h.other there); same = h.same }),
          λ h.
              (let name = one_name root other_root part h.other h.same in
              let there = subst (λ (q : Text). Member (items_under q pairs) h.other) (sym name) (to_under h.other (member_of parts h.other h.among)) in
              told.1 (record { other = h.other; among = contains_of (map (λ (x : Bor T). x.now) v.items) h.other (subst (λ (xs : List T). Member xs h.other) (sym same) there); same = h.same })),
        )

    -- nothing is found under the name
    pub none_found : None ≡ value_under m (named part) → HasSame MeansSame root part other_root parts → ⊥
    none_found absent h =
        let empty : [] ≡ items_under (named part) held.borrowed = none_if_any (items_under (named part) held.borrowed) (ap (option_map items_of) absent ∙ holds_by_groups held.borrowed m held.groups (named part)) in
        let none : [] ≡ items_under (named part) pairs = ap (map (λ (x : Bor T). x.now)) empty ∙ under (named part) in
        let name = one_name root other_root part h.other h.same in
        let there = subst (λ (q : Text). Member (items_under q pairs) h.other) (sym name) (to_under h.other (member_of parts h.other h.among)) in
        absurd (subst (λ (xs : List T). Member xs h.other) (sym none) there)
