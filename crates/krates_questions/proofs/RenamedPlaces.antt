-- Dependencies that are named as their package's library, found by the names of their packages.
use Rattle.std.proofs.Common.{◌≡◌, ℕ, zero, suc, ◌+◌, ◌<◌, ◌≤◌, List, [], ◌∷◌, ◌++◌, length, get_or, map, Option, None, Some, option_map, refl, sym, ap, ◌∙◌, inl, inr, arith, subst}
use Rattle.std.proofs.lemmas.Bool.{cases_lt}
use Rattle.std.proofs.lemmas.List.{length-append}
use Rattle.std.proofs.lemmas.List.Elements.{Contains-push}
use Rattle.std.proofs.lemmas.List.Sorted.{Contains-permutation}
use Rattle.std.proofs.lemmas.Option.{same_Some, slice_get-map, slice_get_within}
use Rattle.std.specs.Global.{Vec}
use Rattle.std.specs.List.{AllZip, slice_get}
use Rattle.std.specs.List.Sorted.{IsPermutation}
use Rattle.std.specs.Vec.{vec_len}
use Rattle.krates_cm.specs.Document.{NodeDepModel, NodeModel, PackageModel}
use Rattle.krates_document.specs.Ids.{ids_view}
use Rattle.krates_document.specs.NamedPlaces.{AreInOrder, StandsUnder, key_of, no_target, sought_key}
use Rattle.krates_document.specs.declared.named_places.NamedPlace.{NamedPlace}
use Rattle.krates_ids.specs.Identity.{Identity, Reads}
use Rattle.krates_document.specs.CrateTable.{AreNumbersOf, IsIndex, IsNumberOf, at_number, numbers_in}
use Rattle.krates_questions.specs.Lookup.{IsLookup, IsPackagePlace, resolved_view}
use Rattle.krates_questions.specs.NameIndex.{AreRenamed, AreRenamedIn, HasRenamed, IsRenamedAt, package_numbered, standing_at}
use Rattle.krates_questions.specs.declared.lookup.Lookup.{Lookup}
use Rattle.krates_document.proofs.NamedPlaces.{stands_push}
use Rattle.krates_rules.specs.Admission.{NoneDoubled, package_texts}
use Rattle.krates_rules.specs.Facts.{Id}
use Rattle.krates_rules.specs.Resolved.{HasPackage, Resolved, id_of}
use Rattle.krates_rules.specs.Referent.{IsLibraryRename}
use Rattle.krates_rules.proofs.OnlyOne.{one_package}
use Rattle.krates_rules.proofs.Readings.{ReadsOnce, right_of}
use Rattle.krates_rules.proofs.Standings.{contains_at}
use Rattle.krates_questions.proofs.ListPlaces.{list_at, list_within}
use Rattle.krates_questions.proofs.Lookups.{package_answer}
use Rattle.krates_document.proofs.NumberedPlaces.{index_answer}

-- ---- of one node, as the code goes over its dependencies

-- those before a place that are so named are listed under the names of their packages
abbrev pub StandBelow : (ℕ → Type 0) → List Identity → List NamedPlace → ℕ → Type 0
StandBelow P kids named end = (k : ℕ) (c : Identity) → k < end → slice_get kids k ≡ Some c → P k → StandsUnder named c.name no_target k

pub none_below : (P : ℕ → Type 0) (kids : List Identity) → StandBelow P kids [] 0
none_below P kids k c lt at is = absurd (omega (arith, lt))

-- one more is so named
pub stand_put : (P : ℕ → Type 0) (kids : List Identity) (named : List NamedPlace) (n : ℕ) (c : Identity) (y : NamedPlace) → slice_get kids n ≡ Some c → key_of y ≡ sought_key c.name no_target → y.place ≡ n → StandBelow P kids named n
    → StandBelow P kids (named ++ y ∷ []) (n + 1)
stand_put P kids named n c y here key place h k z below at is = elim (cases_lt k n) [
  | inl low ↦ stands_push named y z.name no_target k (h k z low at is)
  | inr le ↦ (
      let same : n ≡ k = omega (arith, below, le) in
      let one : c ≡ z = same_Some c z (sym here ∙ ap (slice_get kids) same ∙ at) in
      subst (λ (v : Identity). StandsUnder (named ++ y ∷ []) v.name no_target k) one (record { there = y; among = Contains-push named y; key = key; is = place ∙ same }))
]

-- one more isn't
pub stand_by : (P : ℕ → Type 0) (kids : List Identity) (named : List NamedPlace) (n : ℕ) → (P n → ⊥) → StandBelow P kids named n → StandBelow P kids named (n + 1)
stand_by P kids named n other h k z below at is = elim (cases_lt k n) [
  | inl low ↦ h k z low at is
  | inr le ↦ (let same : k ≡ n = omega (arith, below, le) in absurd (other (subst P same is)))
]

-- all, put in order
pub all_renamed : (packages : List PackageModel) (places : List (Option ℕ)) (deps : List NodeDepModel) (kids : List Identity) (numbers : List (Option ℕ)) (named sorted : List NamedPlace) (n : ℕ) → length kids ≤ n → IsPermutation named sorted
    → AreInOrder sorted → StandBelow (IsRenamedAt packages places deps numbers) kids named n → AreRenamed packages places deps kids numbers sorted
all_renamed packages places deps kids numbers named sorted n le moved order h = record {
  sorted = order;
  each = λ k c at is.
      let s = h k c (omega (arith, le, slice_get_within kids k c at)) at is in
      record { there = s.there; among = Contains-permutation named sorted s.there moved s.among; key = s.key; is = s.is };
}

-- ---- of all nodes

pub record RenamedBelow (packages : List PackageModel) (places : List (Option ℕ)) (nodes : List NodeModel) (ids : List (List Identity)) (numbers : List (List (Option ℕ))) (lists : List (List NamedPlace)) (end : ℕ) : Type 0 where
  pub size : length lists ≡ end
  pub each : (place : ℕ) (n : NodeModel) (kids : List Identity) (own : List (Option ℕ)) → place < end → slice_get nodes place ≡ Some n → slice_get ids place ≡ Some kids → slice_get numbers place ≡ Some own
      → HasRenamed packages places n kids own lists place

pub none_listed : (packages : List PackageModel) (places : List (Option ℕ)) (nodes : List NodeModel) (ids : List (List Identity)) (numbers : List (List (Option ℕ))) → RenamedBelow packages places nodes ids numbers [] 0
none_listed packages places nodes ids numbers = record { size = refl; each = λ place n kids own below a b c. absurd (omega (arith, below)) }

-- those of one more node
pub list_more : (packages : List PackageModel) (places : List (Option ℕ)) (nodes : List NodeModel) (ids : List (List Identity)) (numbers : List (List (Option ℕ))) (lists : List (List NamedPlace)) (end : ℕ) (n : NodeModel) (kids : List Identity)
    (own : List (Option ℕ)) (named : List NamedPlace) → slice_get nodes end ≡ Some n → slice_get ids end ≡ Some kids → slice_get numbers end ≡ Some own → AreRenamed packages places n.deps kids own named
    → RenamedBelow packages places nodes ids numbers lists end → RenamedBelow packages places nodes ids numbers (lists ++ named ∷ []) (end + 1)
list_more packages places nodes ids numbers lists end n kids own named node at numbered are h = record {
  size = length-append lists (named ∷ []) ∙ ap (λ k. k + 1) h.size;
  each = λ place m others theirs below a b c. elim (cases_lt place end) [
    | inl low ↦ (
        let w = h.each place m others theirs low a b c in
        record { named = w.named; at = kept lists named place w.named w.at; are = w.are })
    | inr le ↦ (
        let same : place ≡ end = omega (arith, below, le) in
        let one : m ≡ n = same_Some m n (sym a ∙ ap (slice_get nodes) same ∙ node) in
        let these : others ≡ kids = same_Some others kids (sym b ∙ ap (slice_get ids) same ∙ at) in
        let those : theirs ≡ own = same_Some theirs own (sym c ∙ ap (slice_get numbers) same ∙ numbered) in
        let last : slice_get (lists ++ named ∷ []) place ≡ Some named = ap (slice_get (lists ++ named ∷ [])) (same ∙ sym h.size) ∙ put lists named in
        record { named = named; at = last; are = rw (one, these, those) are })
  ];
}
  where
    kept : {A : Type 0} (xs : List A) (x : A) (k : ℕ) (y : A) → slice_get xs k ≡ Some y → slice_get (xs ++ x ∷ []) k ≡ Some y
    kept [] x k y h = absurd cc
    kept (z ∷ xs) x zero y h = h
    kept (z ∷ xs) x (suc k) y h = kept xs x k y h

    put : {A : Type 0} (xs : List A) (x : A) → slice_get (xs ++ x ∷ []) (length xs) ≡ Some x
    put [] x = refl
    put (z ∷ xs) x = put xs x

pub all_listed : (packages : List PackageModel) (places : List (Option ℕ)) (nodes : List NodeModel) (ids : List (List Identity)) (numbers : List (List (Option ℕ))) (lists : List (List NamedPlace)) (end : ℕ) → length nodes ≤ end
    → RenamedBelow packages places nodes ids numbers lists end → AreRenamedIn packages places nodes ids numbers lists
all_listed packages places nodes ids numbers lists end le h = λ place n kids own a b c. h.each place n kids own (omega (arith, le, slice_get_within nodes place n a)) a b c

-- ---- what is found

-- the dependencies of a node that are named as their package's library are found by the names of their packages
pub record FindsRenamed (r : Resolved) (n : NodeModel) (kids : List Identity) (renamed : List NamedPlace) : Type 0 where
  pub sorted : AreInOrder renamed
  pub each : (k : ℕ) (c : Identity) (d : NodeDepModel) (p : PackageModel) → slice_get kids k ≡ Some c → slice_get n.deps k ≡ Some d → HasPackage r (id_of c) p → IsLibraryRename p d.name → StandsUnder renamed c.name no_target k

-- the package that a crate has is found by its number
found_by_number : ReadsOnce → (r : Resolved) (ids : List Id) (kids : List Identity) (places : List (Option ℕ)) (i : Id) (number : Option ℕ) (p : PackageModel) → NoneDoubled r.metadata r.graph → AllZip Reads (package_texts r.metadata) kids
    → IsIndex ids kids places → IsNumberOf ids i number → HasPackage r i p → package_numbered r.metadata.packages places number ≡ Some p
found_by_number once r ids kids places i number p none read index is has = by (at_number places number) (package_answer r kids i (at_number places number) once read (index_answer ids kids places i number index is))
  where
    by : (answer : Option ℕ) → IsPackagePlace r i answer → standing_at r.metadata.packages answer ≡ Some p
    by None lacks = absurd (lacks p has)
    by (Some at) w = w.at ∙ ap (λ (q : PackageModel). Some q) (one_package r i w.pkg p none (record { among = contains_at r.metadata.packages at w.pkg w.at; id = w.id }) has)

numbers_there : (d : Lookup) (place : ℕ) (kids : List Identity) → slice_get (ids_view d.ids.now).deps place ≡ Some kids
    → (own : List (Option ℕ)) × (slice_get (numbers_in d.ids.now.table.dep_numbers) place ≡ Some own) × AreNumbersOf (map id_of d.ids.now.table.ids.items) kids own
numbers_there d place kids at = right_of (AreNumbersOf (map id_of d.ids.now.table.ids.items)) (ids_view d.ids.now).deps (numbers_in d.ids.now.table.dep_numbers) place kids d.ids.now.indexed.dep_numbers at

pub renamed_within : (d : Lookup) (place : ℕ) (n : NodeModel) (kids : List Identity) → IsLookup d → slice_get (resolved_view d).graph.nodes place ≡ Some n → slice_get (ids_view d.ids.now).deps place ≡ Some kids → place < vec_len d.renamed
renamed_within d place n kids h node at =
    let own = numbers_there d place kids at in
    let w = h.renamed place n kids own.0 node at own.1 in
    list_within d.renamed place w.named w.at

pub renamed_at : ReadsOnce → (d : Lookup) (place : ℕ) (n : NodeModel) (kids : List Identity) (v : Vec NamedPlace) → IsLookup d → slice_get (resolved_view d).graph.nodes place ≡ Some n → slice_get (ids_view d.ids.now).deps place ≡ Some kids
    → v ≡ get_or d.renamed.items place v → FindsRenamed (resolved_view d) n kids v.items
renamed_at once d place n kids v h node at is =
    let r = resolved_view d in
    let ids = map id_of d.ids.now.table.ids.items in
    let own = numbers_there d place kids at in
    let w = h.renamed place n kids own.0 node at own.1 in
    subst (FindsRenamed r n kids) (list_at d.renamed place v w.named w.at is) (record {
      sorted = w.are.sorted;
      each = λ k c e p there here has renamed.
          let m = right_of (IsNumberOf ids) (map id_of kids) own.0 k (id_of c) own.2 (slice_get-map id_of kids k ∙ ap (option_map id_of) there) in
          w.are.each k c there (record {
            dep = e;
            here = here;
            number = m.0;
            at = m.1;
            is = record { pkg = p; found = found_by_number once r ids d.ids.now.packages.items d.ids.now.table.packages.items (id_of c) m.0 p h.distinct h.ids.packages d.ids.now.indexed.packages m.2 has; is = renamed };
          });
    })
