-- The groups of several crates among crates that are grouped by name.
use Rattle.std.proofs.Common.{◌≡◌, ◌≤◌, ℕ, List, [], ◌∷◌, Bool, true, All, map, filter, length, bytes_eq, nat_cmp, nat_lt, refl, sym, ap, ◌∙◌, subst, inl, arith}
use Rattle.std.proofs.lemmas.Bool.Decides.{nat_tests}
use Rattle.std.proofs.lemmas.Cmp.{nat_list_eq_equiv}
use Rattle.std.proofs.lemmas.List.Elements.{All-contains, All-filter, All-weaker, filter_agree}
use Rattle.std.specs.Cmp.Lexicographic.{slice_cmp}
use Rattle.krates_cm.specs.Document.{Text, text_view}
use Rattle.krates_cm.specs.declared.package.Package.{Package}
use Rattle.krates_rules.proofs.Members.{Member, member_of, contains_of, member_map, mapped_of, kept_of, member_filter}
use Rattle.krates_queries.specs.KrateNodes.{Match, is_named}
use Rattle.krates_answers.specs.Duplicates.{AreDuplicates, crates_named}
use Rattle.krates_answers.specs.Grouped.{AreGroups, Group, items_under}
use Rattle.krates_answers.proofs.ItemsUnder.{key_of_item}
use Rattle.krates_answers.proofs.GroupsSeen.{items_under-keyed}
use Rattle.krates_answers.proofs.KeptInOrder.{kept_in_order}

-- the name of a crate's package
abbrev pub name_of : Match Package → Text
name_of m = text_view m.krate.name

-- a crate with its name
abbrev pub with_name : Match Package → Text × Match Package
with_name m = (name_of m, m)

-- there are two or more crates in the group
abbrev pub has_several : Group (Match Package) → Bool
has_several g = nat_lt 1 (length g.items)

two_of : (n : ℕ) → nat_lt 1 n ≡ true → 2 ≤ n
two_of n e = grind (arith, nat_tests)

several_of : (n : ℕ) → 2 ≤ n → nat_lt 1 n ≡ true
several_of n two = grind (arith, nat_tests)

-- an item of a list that isn't empty
item_of : {T : Type 0} (xs : List T) → 2 ≤ length xs → (x : T) × Member xs x
item_of [] two = absurd (omega arith)
item_of (x ∷ xs) two = (x, inl refl)

abbrev keys : List (Group (Match Package)) → List Text
keys groups = map (λ g. g.key) groups

module _ (crates : List (Match Package)) where
  pub crates_under : (q : Text) → items_under q (map with_name crates) ≡ crates_named q crates
  crates_under q =
      items_under-keyed name_of q crates
      ∙ filter_agree (λ (m : Match Package). bytes_eq q (name_of m)) (is_named (λ (pkg : Package). text_view pkg.name) q) (λ m. nat_list_eq_equiv.symm q (name_of m)) crates

  module _ (groups : List (Group (Match Package))) (grouped : AreGroups (map with_name crates) groups) where
    each : All (λ g. g.items ≡ crates_named g.key crates) groups
    each = All-weaker (λ (g : Group (Match Package)). g.items ≡ items_under g.key (map with_name crates)) (λ g. g.items ≡ crates_named g.key crates)
        (λ g is. is ∙ crates_under g.key) groups grouped.each

    -- a name that stays has several crates
    has_two : (q : Text) → Member (keys (filter has_several groups)) q → 2 ≤ length (crates_named q crates)
    has_two q m =
        let there = mapped_of (λ (g : Group (Match Package)). g.key) (filter has_several groups) q m in
        let g = there.from in
        let kept = kept_of has_several groups g there.member in
        let is = All-contains (λ (g : Group (Match Package)). g.items ≡ crates_named g.key crates) groups g each (contains_of groups g kept.0) in
        let count : nat_lt 1 (length (crates_named q crates)) ≡ true = subst (λ t. nat_lt 1 (length (crates_named t crates)) ≡ true) there.is (ap (λ (ms : List (Match Package)). nat_lt 1 (length ms)) (sym is) ∙ kept.1) in
        two_of (length (crates_named q crates)) count

    -- a name of several crates stays
    stays : (q : Text) → 2 ≤ length (crates_named q crates) → Member (keys (filter has_several groups)) q
    stays q two =
        let item = item_of (items_under q (map with_name crates)) (subst (λ (n : ℕ). 2 ≤ n) (ap length (sym (crates_under q))) two) in
        let named = key_of_item q (map with_name crates) item.0 item.1 in
        let key = (grouped.exactly q).1 (contains_of (map (λ (p : Text × Match Package). p.0) (map with_name crates)) q named) in
        let group = mapped_of (λ (g : Group (Match Package)). g.key) groups q (member_of (keys groups) q key) in
        let g = group.from in
        let is = All-contains (λ (g : Group (Match Package)). g.items ≡ crates_named g.key crates) groups g each (contains_of groups g group.member) in
        let several : has_several g ≡ true = ap (λ (ms : List (Match Package)). nat_lt 1 (length ms)) is ∙ several_of (length (crates_named g.key crates)) (subst (λ t. 2 ≤ length (crates_named t crates)) (sym group.is) two) in
        subst (Member (keys (filter has_several groups))) group.is
        (member_map (λ (g : Group (Match Package)). g.key) (filter has_several groups) g (member_filter has_several groups g several group.member))

    pub are_duplicates : AreDuplicates crates (filter has_several groups)
    are_duplicates = record {
      ascending = kept_in_order (slice_cmp nat_cmp) (λ (g : Group (Match Package)). g.key) has_several groups grouped.ascending;
      exactly = λ q. (
        λ c. has_two q (member_of (keys (filter has_several groups)) q c),
        λ two. contains_of (keys (filter has_several groups)) q (stays q two),
      );
      crates = All-filter has_several (λ (g : Group (Match Package)). g.items ≡ crates_named g.key crates) groups each;
    }
