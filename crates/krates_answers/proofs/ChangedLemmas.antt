-- The names that two maps of versions have, with the versions in both.
use Rattle.std.proofs.Common.{◌≡◌, ◌++◌, ◌∙◌, List, [], ◌∷◌, Bool, true, false, cond, Bor, BTreeMap, Contains, Option, None, Some, map, filter, nat_cmp, option_map, sym, ap, subst}
use Rattle.std.proofs.lemmas.List.{map-append}
use Rattle.std.proofs.lemmas.List.Elements.{All-contains, All-contains_itself, All-weaker, filter-append}
use Rattle.std.proofs.lemmas.Simd.{map-map}
use Rattle.std.specs.Cmp.Lexicographic.{slice_cmp}
use Rattle.std.specs.Global.{Vec}
use Rattle.std.specs.List.Sorted.{IsStrictlySortedBy}
use Rattle.std.specs.Option.{is_some}
use Rattle.krates_cm.specs.Document.{Text, text_view}
use Rattle.krates_cm.specs.declared.package.Package.{Package}
use Rattle.krates_queries.specs.KrateNodes.{Match}
use Rattle.krates_rules.proofs.Members.{Member, member_of, contains_of, member_map, mapped_of, kept_of, member_filter}
use Rattle.semver.specs.declared.Version.{Version}
use Rattle.krates_answers.specs.Changed.{AreChanges, Change, HoldsVersions, names_of, borrowed_versions, versions_named, with_version}
use Rattle.krates_answers.specs.Grouped.{AreGroups, Group, group_view, groups_in, items_under}
use Rattle.krates_answers.proofs.DuplicateLemmas.{crates_under, with_name}
use Rattle.krates_answers.proofs.GroupsSeen.{items_under-seen, seen_item}
use Rattle.krates_answers.proofs.HeldPairs.{items_of, some_of_map, value_under}
use Rattle.krates_answers.proofs.IfAny.{first_of, if_any, none_if_any, same_if_any, some_if_any}
use Rattle.krates_answers.proofs.ItemsUnder.{item_of_key, key_of_item}
use Rattle.krates_answers.proofs.KeptInOrder.{kept_in_order}
use Rattle.krates_answers.proofs.OneMoreGrouped.{holds_by_groups}

-- versions by name
abbrev pub VersionMap : Type 0
VersionMap = BTreeMap (Bor Text) (Vec (Bor Version))

-- a name with its versions
abbrev pub Named : Type 0
Named = Bor Text × Vec (Bor Version)

-- the versions that were found, or none
abbrev pub found_versions : Option (Vec (Bor Version)) → List Version
found_versions None = []
found_versions (Some versions) = borrowed_versions versions

-- whether the map has the name too
abbrev pub is_there : VersionMap → Named → Bool
is_there came e = is_some (value_under came e.0.now)

-- what changed under the name
abbrev pub change_of : VersionMap → Named → Change
change_of came e = record { name = e.0.now; from = borrowed_versions e.1; to = found_versions (value_under came e.0.now) }

-- what changed under those of the names that the map has too
abbrev pub changes_in : VersionMap → List Named → List Change
changes_in came es = map (change_of came) (filter (is_there came) es)

pub one_name_more : (came : VersionMap) (es : List Named) (e : Named) (b : Bool) → is_there came e ≡ b → changes_in came (es ++ e ∷ []) ≡ changes_in came es ++ cond b (change_of came e ∷ []) []
one_name_more came es e true is =
    ap (map (change_of came)) (filter-append (is_there came) es (e ∷ []) ∙ ap (λ b. filter (is_there came) es ++ cond b (e ∷ []) []) is) ∙ map-append (change_of came) (filter (is_there came) es) (e ∷ [])
one_name_more came es e false is =
    ap (map (change_of came)) (filter-append (is_there came) es (e ∷ []) ∙ ap (λ b. filter (is_there came) es ++ cond b (e ∷ []) []) is) ∙ map-append (change_of came) (filter (is_there came) es) []

-- ---- what a map of versions has

-- a version more, under the name of its crate
pub one_version_more : (crates more : List (Match Package)) (last : Match Package) (m n : VersionMap) (key : Text) (version : Bor Version) → HoldsVersions crates m
    → ((items : List (Text × Bor Version)) → AreGroups items (groups_in m) → AreGroups (items ++ (key, version) ∷ []) (groups_in n)) → more ≡ crates ++ last ∷ []
    → key ≡ text_view last.krate.name → version.now ≡ last.krate.version → HoldsVersions more n
one_version_more crates more last m n key version held put is name same =
    let seen : Text × Bor Version → Text × Version = λ p. (p.0, p.1.now) in record {
      borrowed = held.borrowed ++ (key, version) ∷ [];
      groups = put held.borrowed held.groups;
      seen = map-append seen held.borrowed ((key, version) ∷ []) ∙ ap (λ front. front ++ (key, version.now) ∷ []) held.seen
          ∙ (λ i. map with_version crates ++ (name i, same i) ∷ []) ∙ sym (map-append with_version crates (last ∷ [])) ∙ ap (map with_version) (sym is);
    }

module _ (crates : List (Match Package)) (m : VersionMap) (held : HoldsVersions crates m) where
  -- its names are those of the crates
  same_names : map (λ (p : Text × Bor Version). p.0) held.borrowed ≡ names_of crates
  same_names =
      sym (map-map (λ (p : Text × Version). p.0) (seen_item (λ (v : Bor Version). v.now)) held.borrowed)
      ∙ ap (map (λ (p : Text × Version). p.0)) held.seen ∙ map-map (λ (p : Text × Version). p.0) with_version crates

  versions_under : (q : Text) → map (λ v. v.now) (items_under q held.borrowed) ≡ versions_named q crates
  versions_under q =
      items_under-seen (λ (v : Bor Version). v.now) q held.borrowed ∙ ap (items_under q) held.seen
      ∙ ap (items_under q) (sym (map-map (seen_item (λ (c : Match Package). c.krate.version)) with_name crates))
      ∙ sym (items_under-seen (λ (c : Match Package). c.krate.version) q (map with_name crates)) ∙ ap (map (λ c. c.krate.version)) (crates_under crates q)

  -- what is found under a name are the versions of the crates of that name
  found_are : (q : Text) (found : Option (Vec (Bor Version))) → option_map items_of found ≡ if_any (items_under q held.borrowed) → found_versions found ≡ versions_named q crates
  found_are q None e = ap (map (λ (v : Bor Version). v.now)) (none_if_any (items_under q held.borrowed) e) ∙ versions_under q
  found_are q (Some v) e = ap (map (λ (v : Bor Version). v.now)) (same_if_any v.items (items_under q held.borrowed) e) ∙ versions_under q

  under : (q : Text) → found_versions (value_under m q) ≡ versions_named q crates
  under q = found_are q (value_under m q) (holds_by_groups held.borrowed m held.groups q)

  -- a name of a crate is found
  finds : (q : Text) → Member (names_of crates) q → is_some (value_under m q) ≡ true
  finds q named =
      let item = item_of_key q held.borrowed (subst (λ (ts : List Text). Member ts q) (sym same_names) named) in
      some_of_map (value_under m q) (ap is_some (holds_by_groups held.borrowed m held.groups q) ∙ some_if_any (items_under q held.borrowed) item.0 item.1)

  -- what is found has the name of a crate
  has_items : (q : Text) (found : Option (Vec (Bor Version))) → is_some found ≡ true → option_map items_of found ≡ if_any (items_under q held.borrowed) → Member (names_of crates) q
  has_items q None is e = absurd cc
  has_items q (Some v) is e =
      let item = first_of (items_under q held.borrowed) v.items (sym e) in
      subst (λ (ts : List Text). Member ts q) same_names (key_of_item q held.borrowed item.0 item.1)

  is_named : (q : Text) → is_some (value_under m q) ≡ true → Member (names_of crates) q
  is_named q is = has_items q (value_under m q) is (holds_by_groups held.borrowed m held.groups q)

  -- the versions of an entry are those of the crates of its name
  entry_are : (e : Named) → Member m.entries e → borrowed_versions e.1 ≡ versions_named e.0.now crates
  entry_are e among =
      let is = All-contains (λ (g : Group (Bor Version)). g.items ≡ items_under g.key held.borrowed) (groups_in m) (group_view e) held.groups.each
      (contains_of (groups_in m) (group_view e) (member_map group_view m.entries e among)) in
      ap (map (λ (v : Bor Version). v.now)) is ∙ versions_under e.0.now

  entry_named : (e : Named) → Member m.entries e → Member (names_of crates) e.0.now
  entry_named e among =
      let key = member_map (λ (g : Group (Bor Version)). g.key) (groups_in m) (group_view e) (member_map group_view m.entries e among) in
      let borrowed = (held.groups.exactly e.0.now).0 (contains_of (map (λ (g : Group (Bor Version)). g.key) (groups_in m)) e.0.now key) in
      subst (λ (ts : List Text). Member ts e.0.now) same_names (member_of (map (λ (p : Text × Bor Version). p.0) held.borrowed) e.0.now borrowed)

  entry_of : (q : Text) → Member (names_of crates) q → (e : Named) × Member m.entries e × (e.0.now ≡ q)
  entry_of q named =
      let key = (held.groups.exactly q).1 (contains_of (map (λ (p : Text × Bor Version). p.0) held.borrowed) q (subst (λ (ts : List Text). Member ts q) (sym same_names) named)) in
      let group = mapped_of (λ (g : Group (Bor Version)). g.key) (groups_in m) q (member_of (map (λ (g : Group (Bor Version)). g.key) (groups_in m)) q key) in
      let entry = mapped_of group_view m.entries group.from group.member in
      (entry.from, entry.member, ap (λ (g : Group (Bor Version)). g.key) entry.is ∙ group.is)

-- ---- both

module _ (removed added : List (Match Package)) (gone came : VersionMap) (held : HoldsVersions removed gone) (also : HoldsVersions added came) where
  abbrev changes : List Change
  changes = changes_in came gone.entries

  -- a change is of a name that is in both
  from_entry : (x : Change) → Contains changes x → (e : Named) × Member gone.entries e × (is_there came e ≡ true) × (change_of came e ≡ x)
  from_entry x among =
      let made = mapped_of (change_of came) (filter (is_there came) gone.entries) x (member_of changes x among) in
      let kept = kept_of (is_there came) gone.entries made.from made.member in
      (made.from, kept.0, kept.1, made.is)

  from_is : (x : Change) → Contains changes x → x.from ≡ versions_named x.name removed
  from_is x among =
      let (e, there, both, is) = from_entry x among in
      subst (λ (x : Change). x.from ≡ versions_named x.name removed) is (entry_are removed gone held e there)

  to_is : (x : Change) → Contains changes x → x.to ≡ versions_named x.name added
  to_is x among =
      let (e, there, both, is) = from_entry x among in
      subst (λ (x : Change). x.to ≡ versions_named x.name added) is (under added came also e.0.now)

  in_both : (q : Text) → Contains (map (λ (x : Change). x.name) changes) q → Contains (names_of removed) q × Contains (names_of added) q
  in_both q c =
      let named = mapped_of (λ (x : Change). x.name) changes q (member_of (map (λ (x : Change). x.name) changes) q c) in
      let (e, there, both, is) = from_entry named.from (contains_of changes named.from named.member) in
      let name : e.0.now ≡ q = ap (λ (x : Change). x.name) is ∙ named.is in (
        contains_of (names_of removed) q (subst (Member (names_of removed)) name (entry_named removed gone held e there)),
        contains_of (names_of added) q (subst (Member (names_of added)) name (is_named added came also e.0.now both)),
      )

  of_both : (q : Text) → Contains (names_of removed) q × Contains (names_of added) q → Contains (map (λ (x : Change). x.name) changes) q
  of_both q (was, is) =
      let (e, there, name) = entry_of removed gone held q (member_of (names_of removed) q was) in
      let both : is_there came e ≡ true = subst (λ (t : Text). is_some (value_under came t) ≡ true) (sym name) (finds added came also q (member_of (names_of added) q is)) in
      let change = member_map (change_of came) (filter (is_there came) gone.entries) e (member_filter (is_there came) gone.entries e both there) in
      subst (λ (t : Text). Contains (map (λ (x : Change). x.name) changes) t) name
      (contains_of (map (λ (x : Change). x.name) changes) e.0.now (member_map (λ (x : Change). x.name) changes (change_of came e) change))

  pub are_changes : AreChanges removed added changes
  are_changes = record {
    ascending = subst (IsStrictlySortedBy (slice_cmp nat_cmp)) (sym (map-map (λ (x : Change). x.name) (change_of came) (filter (is_there came) gone.entries)))
        (kept_in_order (slice_cmp nat_cmp) (λ (e : Named). e.0.now) (is_there came) gone.entries
        (subst (IsStrictlySortedBy (slice_cmp nat_cmp)) (map-map (λ (g : Group (Bor Version)). g.key) group_view gone.entries) held.groups.ascending));
    exactly = λ q. (in_both q, of_both q);
    from = All-weaker (Contains changes) (λ x. x.from ≡ versions_named x.name removed) from_is changes (All-contains_itself changes);
    to = All-weaker (Contains changes) (λ x. x.to ≡ versions_named x.name added) to_is changes (All-contains_itself changes);
  }
