-- The direct dependents of a crate, as those of the kept crates that need it.
use Rattle.std.proofs.Common.{◌≡◌, ℕ, suc, ◌<◌, List, [], ◌∷◌, ◌++◌, length, map, Option, Some, None, option_map, Less, arith, refl, sym, ap, ◌∙◌, subst, inl, inr}
use Rattle.std.proofs.lemmas.Bool.Decides.{nat_tests}
use Rattle.std.proofs.lemmas.List.{flat_map_more, map-append}
use Rattle.std.proofs.lemmas.List.Elements.{All-contains, filter_map-append}
use Rattle.std.proofs.lemmas.Option.{none-some, same_Some}
use Rattle.std.specs.List.{AllByRecursion, cons_option, filter_map, flat_map, slice_get}
use Rattle.std.specs.List.Sorted.{IsStrictlySortedBy}
use Rattle.std.specs.Ordering.{nat_cmp}
use Rattle.krates_rules.proofs.Members.{Member, contains_of, member_map, member_of}
use Rattle.krates_ids.specs.Identity.{Identity}
use Rattle.krates_queries.proofs.ReachedLemmas.{there_crate}
use Rattle.krates_queries.specs.KrateNodes.{Match, crates_of, match_in, numbered_crates}
use Rattle.krates_queries.specs.Direct.{Joined, dependent_view, home_in, value_at, value_in, AreDependents}
use Rattle.krates_queries.specs.Kept.{KeptCrates, ids_of}
use Rattle.krates_drawing.specs.declared.node.Node.{Node}
use Rattle.krates_drawing.specs.declared.node.Node.TheVariants.{Krate, Feature}
use Rattle.krates_queries.specs.Numbers.{id_in}
use Rattle.krates_queries.specs.declared.queries.direct.DirectDependent.{DirectDependent}
use Rattle.krates_answers.specs.Difference.{IsDependency, Pair, pairs_to, pairs_with, parent_of}
use Rattle.krates_answers.specs.DirectLinks.{Needs}
use Rattle.krates_answers.specs.Those.{AreThose}
use Rattle.krates_answers.proofs.OrderedParts.{Ascend, AreThose-from_part}
use Rattle.krates_answers.proofs.ThoseLemmas.{AreThose-adds, AreThose-map}

-- ---- the kept crates are in the order of their numbers

lower : (n k : ℕ) → n < k → nat_cmp n k ≡ Less
lower n k lt = grind (arith, nat_tests)

above : {N : Type 0} (n k : ℕ) (nodes : List (Node N)) → n < k → AllByRecursion (λ m. nat_cmp n m ≡ Less) (map (λ (c : Match N). c.number) (numbered_crates k nodes))
above n k [] lt = tt
above n k (Krate id krate features mapping ∷ nodes) lt = (lower n k lt, above n (suc k) nodes (omega (arith, lt)))
above n k (Feature krate_index name ∷ nodes) lt = above n (suc k) nodes (omega (arith, lt))

crates_ascend : {N : Type 0} (k : ℕ) (nodes : List (Node N)) → Ascend (λ (c : Match N). c.number) (numbered_crates k nodes)
unfolding IsStrictlySortedBy
crates_ascend k [] = tt
crates_ascend k (Krate id krate features mapping ∷ nodes) = (above k (suc k) nodes (omega arith), crates_ascend (suc k) nodes)
crates_ascend k (Feature krate_index name ∷ nodes) = crates_ascend (suc k) nodes

-- ---- the dependents of a crate

-- a crate that depends on another, as one of the kept crates
record IsParent {N E : Type 0} (k : KeptCrates N E) (d : DirectDependent N) : Type 0 where
  crate : Match N
  number : crate.number ≡ d.node_id
  is : parent_of k d ≡ Some crate
  kept : Member (crates_of k) crate

abbrev pub with_id : {N : Type 0} → DirectDependent N → Identity → Match N
with_id d id = record { number = d.node_id; id = id; krate = d.krate.now }

-- what is known of the node with its number
record IsWithId {N : Type 0} (nodes : List (Node N)) (d : DirectDependent N) (o : Option (Node N)) : Type 0 where
  id : Identity
  is : id_in (slice_get nodes (home_in d.node_id o)) ≡ Some id
  at : match_in d.node_id o ≡ Some (with_id d id)

id_of_node : {N : Type 0} (nodes : List (Node N)) (d : DirectDependent N) (o : Option (Node N)) → slice_get nodes d.node_id ≡ o → value_in o ≡ Some d.krate.now → IsWithId nodes d o
id_of_node nodes d None e v = absurd (none-some d.krate.now v)
id_of_node {N} nodes d (Some (Krate id krate features mapping)) e v = record {
  id = id;
  is = ap id_in e;
  at = ap (λ (x : N). Some (record { number = d.node_id; id = id; krate = x })) (same_Some krate d.krate.now v);
}
id_of_node nodes d (Some (Feature krate_index name)) e v = absurd (none-some d.krate.now v)

-- each is one of the kept crates
is_parent : {N E : Type 0} (k : KeptCrates N E) (d : DirectDependent N) → value_at k.graph.nodes d.node_id ≡ Some d.krate.now → IsParent k d
is_parent k d v =
    let nodes = k.graph.nodes in
    let w = id_of_node nodes d (slice_get nodes d.node_id) refl v in
    record { crate = with_id d w.id; number = refl; is = ap (option_map (with_id d)) w.is; kept = there_crate nodes d.node_id (with_id d w.id) w.at }

-- so they have ids, and their numbers are as they were
record AreParents {N E : Type 0} (k : KeptCrates N E) (ds : List (DirectDependent N)) : Type 0 where
  numbers : map (λ (c : Match N). c.number) (filter_map (parent_of k) ds) ≡ map (λ (j : Joined N). j.node) (map dependent_view ds)
  kept : (c : Match N) → Member (filter_map (parent_of k) ds) c → Member (crates_of k) c

one_parent : {N E : Type 0} (k : KeptCrates N E) (d : DirectDependent N) (ds : List (DirectDependent N)) → IsParent k d → AreParents k ds → AreParents k (d ∷ ds)
one_parent {N} k d ds w more =
    let first : filter_map (parent_of k) (d ∷ ds) ≡ w.crate ∷ filter_map (parent_of k) ds = ap (λ o. cons_option o (filter_map (parent_of k) ds)) w.is in
    record {
      numbers = ap (map (λ (c : Match N). c.number)) first ∙ ap (λ n. n ∷ map (λ (c : Match N). c.number) (filter_map (parent_of k) ds)) w.number ∙ ap (λ ns. d.node_id ∷ ns) more.numbers;
      kept = λ c m. elim (subst (λ (cs : List (Match N)). Member cs c) first m) [
        | inl same ↦ subst (Member (crates_of k)) same w.kept
        | inr later ↦ more.kept c later
      ];
    }

are_parents : {N E : Type 0} (k : KeptCrates N E) (ds : List (DirectDependent N)) → ((j : Joined N) → Member (map dependent_view ds) j → value_at k.graph.nodes j.node ≡ Some j.krate) → AreParents k ds
are_parents k [] all = record { numbers = refl; kept = λ c m. absurd m }
are_parents k (d ∷ ds) all = one_parent k d ds (is_parent k d (all (dependent_view d) (inl refl))) (are_parents k ds (λ j m. all j (inr m)))

-- they are those of the kept crates that need it
those_parents : {N E : Type 0} (k : KeptCrates N E) (d : ℕ) (ds : List (DirectDependent N)) → d < length (ids_of k) → AreDependents k.graph.nodes k.graph.edges d (map dependent_view ds)
    → AreThose (λ (c : Match N). Needs k c.number d) (crates_of k) (filter_map (parent_of k) ds)
those_parents {N} k d ds lt are =
    let number : Match N → ℕ = λ c. c.number in
    let parents = filter_map (parent_of k) ds in
    let joined = map dependent_view ds in
    let numbers = map (λ (j : Joined N). j.node) joined in
    let w = are_parents k ds (λ j m. All-contains (λ (x : Joined N). value_at k.graph.nodes x.node ≡ Some x.krate) joined j are.krates (contains_of joined j m)) in
    let same : map number parents ≡ numbers = w.numbers in
    AreThose-from_part number (λ c. Needs k c.number d) (crates_of k) parents (record {
      all_ascend = crates_ascend 0 k.graph.nodes;
      those_ascend = subst (IsStrictlySortedBy nat_cmp) (sym same) are.by_number;
      among = w.kept;
      have = λ c m.
          (let among = subst (λ (ns : List ℕ). Member ns c.number) same (member_map number parents c m) in
          record { krate = lt; depends = (are.exactly c.number).0 (contains_of numbers c.number among) });
      none_left = λ c m needs. subst (λ (ns : List ℕ). Member ns c.number) (sym same) (member_of numbers c.number ((are.exactly c.number).1 needs.depends));
    })

-- ---- the pairs so far

-- the pairs of one more dependent
pub one_more_pair : {N E : Type 0} (k : KeptCrates N E) (child : Match N) (ds : List (DirectDependent N)) (d : DirectDependent N) → pairs_to k child (ds ++ d ∷ []) ≡ pairs_to k child ds ++ pairs_to k child (d ∷ [])
one_more_pair {N} k child ds d =
    let pair : Match N → Pair N = λ parent. record { parent = parent; child = child } in
    ap (map pair) (filter_map-append (parent_of k) ds (d ∷ [])) ∙ map-append pair (filter_map (parent_of k) ds) (filter_map (parent_of k) (d ∷ []))

-- the pair of a dependent
pub its_pair : {N E : Type 0} (k : KeptCrates N E) (child : Match N) (d : DirectDependent N) (parent : Option (Match N)) → parent ≡ parent_of k d → pairs_with child (cons_option parent []) ≡ pairs_to k child (d ∷ [])
its_pair k child d parent is = ap (λ o. pairs_with child (cons_option o [])) is

-- the pairs of one more child
pub one_more_child : {N E : Type 0} (k : KeptCrates N E) (child : Match N) (ds : List (DirectDependent N)) (done : List (Match N)) (old new : List (Pair N)) → child.number < length (ids_of k)
    → AreDependents k.graph.nodes k.graph.edges child.number (map dependent_view ds) → new ≡ old ++ pairs_to k child ds → AreThose (IsDependency k) (flat_map (λ c. pairs_with c (crates_of k)) done) old
    → AreThose (IsDependency k) (flat_map (λ c. pairs_with c (crates_of k)) (done ++ child ∷ [])) new
one_more_child {N} k child ds done old new lt are adds before =
    let with_child : Match N → Pair N = λ parent. record { parent = parent; child = child } in
    let pairs_of_child : Match N → List (Pair N) = λ c. pairs_with c (crates_of k) in
    let needed : AreThose (IsDependency k) (pairs_of_child child) (pairs_to k child ds) = AreThose-map with_child (those_parents k child.number ds lt are) in
    subst (λ (all : List (Pair N)). AreThose (IsDependency k) all new) (flat_map_more pairs_of_child [] done child)
    (AreThose-adds before (record { added = pairs_to k child ds; appended = adds; those = needed }))
