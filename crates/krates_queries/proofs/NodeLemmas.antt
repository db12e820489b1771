-- The nodes of a graph: where the crates and the enabled features are among them, and what a search for one finds.
use Rattle.std.proofs.Common.{◌≡◌, ◌↔◌, ℕ, zero, suc, ◌<◌, ◌≤◌, List, [], ◌∷◌, length, get_or, Option, Some, None, slice_get, refl, sym, ap, ◌∙◌, subst, arith, HoldsAt, Ordering, Less, Equal, Greater, ◌+◌, ◌++◌, map, take, option_map, Contains, inl, inr, rules}
use Rattle.std.proofs.lemmas.List.Sorted.{searchable_from_sorted}
use Rattle.std.proofs.lemmas.Option.{none-some, get_or_from_slice_get, slice_get_within, slice_get-map, slice_get-get_or, slice_get_cases}
use Rattle.std.specs.Bool.{⊤}
use Rattle.std.specs.BTreeSet.{BTreeSet}
use Rattle.std.specs.Global.{Vec}
use Rattle.std.specs.List.{AllByRecursion}
use Rattle.std.specs.List.Sorted.{IsStrictlySortedBy, IsPartitionPoint, IsNonDecreasingBy}
use Rattle.std.specs.Ordering.{ordering_index, nat_cmp}
use Rattle.std.specs.Prelude.{String, MatchOption, IsSome}
use Rattle.std.specs.declared.alloc.Global.{Global}
use Rattle.krates_cm.specs.Document.{Text, text_view}
use Rattle.krates_ids.specs.Identity.{Identity, id_cmp}
use Rattle.krates_rules.specs.Facts.{Id}
use Rattle.krates_rules.specs.Resolved.{id_of, StandsAt}
use Rattle.krates_queries.specs.Direct.{home_in}
use Rattle.krates_queries.proofs.DirectLemmas.{got}
use Rattle.krates_queries.specs.Kept.{AreNodes, HasFeatures, IsEnabledIn, enabled_facts, feature_order}
use Rattle.krates_drawing.specs.Node.{crate_ids, crate_values, crate_features, CratesFirst, names_in, IsFeature, IsFeatureAt, feature_names}
use Rattle.krates_queries.specs.Numbers.{node_cmp, IsNumberFor, feature_cmp, id_in, kid_at}
use Rattle.krates_drawing.specs.declared.node.Node.{Node}
use Rattle.krates_drawing.specs.declared.node.Node.TheVariants.{Krate, Feature}
use Rattle.krates_rules.proofs.OrderedIds.{Compares, id_of_equal, equal_of, sorted_weakly, none_equal, one_place, stands_within, stands_same}
use Rattle.std.proofs.lemmas.List.{take_more}
use Rattle.krates_selection.specs.Selection.{id_at, no_id}
use Rattle.krates_rules.specs.Facts as facts
use Rattle.krates_rules.proofs.Members.{Member, contains_of, mapped_of, member_append, member_left, member_map, member_of, member_right}
use Rattle.std.proofs.lemmas.Map.Lookups.{exact_unsigned}
use Rattle.std.specs.Cmp.{IsTotalOrder}
use Rattle.std.specs.Cmp.Lexicographic.{slice_cmp}
use Rattle.std.specs.Cmp.Rules.{comparing}
use Rattle.krates_drawing.proofs.EqualRanges.{weakly}
use Rattle.krates_rules.proofs.KeyOrder.{text_tells, then_equal}
use Rattle.krates_rules.proofs.SeenInOrder.{equal_self}

-- ---- as many values as ids

pub as_many_values : {N : Type 0} (nodes : List (Node N)) → length (crate_values nodes) ≡ length (crate_ids nodes)
as_many_values [] = refl
as_many_values (Krate id krate features mapping ∷ nodes) = ap suc (as_many_values nodes)
as_many_values (Feature krate_index name ∷ nodes) = as_many_values nodes

pub as_many_features : {N : Type 0} (nodes : List (Node N)) → length (crate_features nodes) ≡ length (crate_ids nodes)
as_many_features [] = refl
as_many_features (Krate id krate features mapping ∷ nodes) = ap suc (as_many_features nodes)
as_many_features (Feature krate_index name ∷ nodes) = as_many_features nodes

-- ---- a crate's number is its place among the crates

-- the node is a crate of this id
pub record IsCrate {N : Type 0} (node : Node N) (id : Identity) (names : List Text) : Type 0 where
  pub krate : N
  pub features : BTreeSet (String Global)
  pub mapping : Vec (Option ℕ)
  pub is : node ≡ Krate id krate features mapping
  pub named : names_in features ≡ names

pub record CrateAt {N : Type 0} (nodes : List (Node N)) (n : ℕ) (id : Identity) : Type 0 where
  pub node : Node N
  pub names : List Text
  pub at : slice_get nodes n ≡ Some node
  pub is : IsCrate node id names
  pub enabled : slice_get (crate_features nodes) n ≡ Some names

-- the crate at a place among the crates is the node with that number
pub crate_at : {N : Type 0} (nodes : List (Node N)) (n : ℕ) (id : Identity) → CratesFirst nodes → slice_get (crate_ids nodes) n ≡ Some id → CrateAt nodes n id
crate_at [] n id first at = absurd cc
crate_at (Krate i krate features mapping ∷ nodes) zero id first at = record {
  node = Krate i krate features mapping;
  names = names_in features;
  at = refl;
  is = let same : i ≡ id = cc in record { krate = krate; features = features; mapping = mapping; is = ap (λ x. Krate x krate features mapping) same; named = refl };
  enabled = refl;
}
crate_at (Krate i krate features mapping ∷ nodes) (suc n) id first at =
    let w = crate_at nodes n id first at in
    record { node = w.node; names = w.names; at = w.at; is = w.is; enabled = w.enabled }
crate_at (Feature krate_index name ∷ nodes) n id first at =
    let empty : List Identity = [] in
    let none : slice_get empty n ≡ Some id = subst (λ (ids : List Identity). slice_get ids n ≡ Some id) first at in
    absurd cc

no_crate : {N : Type 0} (nodes : List (Node N)) (n : ℕ) (id : Identity) (krate : N) (features : BTreeSet (String Global)) (mapping : Vec (Option ℕ))
    → crate_ids nodes ≡ [] → slice_get nodes n ≡ Some (Krate id krate features mapping) → ⊥
no_crate [] n id krate features mapping none at = absurd cc
no_crate (Krate i k f m ∷ nodes) n id krate features mapping none at = absurd cc
no_crate (Feature krate_index name ∷ nodes) zero id krate features mapping none at = absurd cc
no_crate (Feature krate_index name ∷ nodes) (suc n) id krate features mapping none at = no_crate nodes n id krate features mapping none at

-- the crate with a number is at that place among the crates
pub place_at : {N : Type 0} (nodes : List (Node N)) (n : ℕ) (id : Identity) (krate : N) (features : BTreeSet (String Global)) (mapping : Vec (Option ℕ))
    → CratesFirst nodes → slice_get nodes n ≡ Some (Krate id krate features mapping) → (slice_get (crate_ids nodes) n ≡ Some id) × (slice_get (crate_features nodes) n ≡ Some (names_in features))
place_at [] n id krate features mapping first at = absurd cc
place_at (Krate i k f m ∷ nodes) zero id krate features mapping first at = (
  (let same : i ≡ id = cc in ap (λ (x : Identity). Some x) same),
  (let same : f ≡ features = cc in ap (λ (x : BTreeSet (String Global)). Some (names_in x)) same),
)
place_at (Krate i k f m ∷ nodes) (suc n) id krate features mapping first at = place_at nodes n id krate features mapping first at
place_at (Feature krate_index name ∷ nodes) zero id krate features mapping first at = absurd cc
place_at (Feature krate_index name ∷ nodes) (suc n) id krate features mapping first at = absurd (no_crate nodes n id krate features mapping first at)

-- and so does the value for its package
pub value_at : {N : Type 0} (nodes : List (Node N)) (n : ℕ) (id : Identity) (krate : N) (features : BTreeSet (String Global)) (mapping : Vec (Option ℕ))
    → CratesFirst nodes → slice_get nodes n ≡ Some (Krate id krate features mapping) → slice_get (crate_values nodes) n ≡ Some krate
value_at [] n id krate features mapping first at = absurd cc
value_at {N} (Krate i k f m ∷ nodes) zero id krate features mapping first at = let same : k ≡ krate = cc in ap (λ (x : N). Some x) same
value_at (Krate i k f m ∷ nodes) (suc n) id krate features mapping first at = value_at nodes n id krate features mapping first at
value_at (Feature krate_index name ∷ nodes) zero id krate features mapping first at = absurd cc
value_at (Feature krate_index name ∷ nodes) (suc n) id krate features mapping first at = absurd (no_crate nodes n id krate features mapping first at)

-- there are no more crates than nodes
pub crates_within : {N : Type 0} (nodes : List (Node N)) → length (crate_ids nodes) ≤ length nodes
crates_within [] = omega arith
crates_within (Krate id krate features mapping ∷ nodes) = let more = crates_within nodes in omega (arith, more)
crates_within (Feature krate_index name ∷ nodes) = let more = crates_within nodes in omega (arith, more)

-- the number of a crate is that of a node
pub stands_among : {N : Type 0} (nodes : List (Node N)) (id : Id) (n : ℕ) → StandsAt (crate_ids nodes) id n → n < length nodes
stands_among nodes id n h =
    let within = stands_within (crate_ids nodes) id n h in
    let few = crates_within nodes in
    omega (arith, within, few)

no_features : {N : Type 0} (nodes : List (Node N)) → crate_ids nodes ≡ [] → crate_features nodes ≡ []
no_features [] none = refl
no_features (Krate i k f m ∷ nodes) none = absurd cc
no_features (Feature krate_index name ∷ nodes) none = no_features nodes none

-- where the node with a number is a feature, no crate is at that place
pub no_place : {N : Type 0} (nodes : List (Node N)) (n krate_index : ℕ) (name : String Global) → CratesFirst nodes → slice_get nodes n ≡ Some (Feature krate_index name)
    → (slice_get (crate_ids nodes) n ≡ None) × (slice_get (crate_features nodes) n ≡ None)
no_place [] n krate_index name first at = absurd cc
no_place (Krate i k f m ∷ nodes) zero krate_index name first at = absurd cc
no_place (Krate i k f m ∷ nodes) (suc n) krate_index name first at = no_place nodes n krate_index name first at
no_place (Feature other text ∷ nodes) n krate_index name first at = (
  ap (λ (ids : List Identity). slice_get ids n) first,
  ap (λ (ls : List (List Text)). slice_get ls n) (no_features nodes first),
)

-- past the nodes there are no crates
pub none_past : {N : Type 0} (nodes : List (Node N)) (n : ℕ) → CratesFirst nodes → slice_get nodes n ≡ None → (slice_get (crate_ids nodes) n ≡ None) × (slice_get (crate_features nodes) n ≡ None)
none_past [] n first past = (refl, refl)
none_past (Krate i k f m ∷ nodes) zero first past = absurd cc
none_past (Krate i k f m ∷ nodes) (suc n) first past = none_past nodes n first past
none_past (Feature other text ∷ nodes) n first past = (
  ap (λ (ids : List Identity). slice_get ids n) first,
  ap (λ (ls : List (List Text)). slice_get ls n) (no_features nodes first),
)

-- ---- what a search finds

at_most_two : (r : Ordering) → ordering_index r ≤ 2
at_most_two Less = omega arith
at_most_two Equal = omega arith
at_most_two Greater = omega arith

pair_sorted : (i j : Identity) → id_cmp i j ≡ Less → IsStrictlySortedBy id_cmp (i ∷ j ∷ [])
unfolding IsStrictlySortedBy
pair_sorted i j less = ((less, tt), (tt, tt))

-- of two ids in order, the earlier compares no higher than the later with any id
earlier : Compares → (i j kid : Identity) → id_cmp i j ≡ Less → ordering_index (id_cmp i kid) ≤ ordering_index (id_cmp j kid)
earlier o i j kid less =
    let pair : List Identity = i ∷ j ∷ [] in
    let sorted : IsStrictlySortedBy id_cmp pair = pair_sorted i j less in
    let rises : IsNonDecreasingBy (λ (x : Identity). ordering_index (id_cmp x kid)) pair = searchable_from_sorted o.total (λ (x : Identity). x) pair kid (sorted_weakly o pair sorted) in
    rises 0 1 i (omega arith) (omega arith)

-- the values of `f` never fall
abbrev pub Rises : {X : Type 0} → (X → ℕ) → List X → Type 0
Rises f [] = ⊤
Rises f (x ∷ xs) = AllByRecursion (λ y. f x ≤ f y) xs × Rises f xs

later_at : {X : Type 0} (f : X → ℕ) (low : ℕ) (xs : List X) (j : ℕ) (d : X) → AllByRecursion (λ y. low ≤ f y) xs → j < length xs → low ≤ f (get_or xs j d)
later_at f low [] j d h lt = absurd (omega (arith, lt))
later_at f low (x ∷ xs) zero d h lt = h.0
later_at f low (x ∷ xs) (suc j) d h lt = later_at f low xs j d h.1 (omega (arith, lt))

pub rising : {X : Type 0} (f : X → ℕ) (xs : List X) → Rises f xs → IsNonDecreasingBy f xs
rising f [] h i j d le lt = absurd (omega (arith, lt))
rising f (x ∷ xs) h zero zero d le lt = omega arith
rising f (x ∷ xs) h zero (suc j) d le lt = later_at f (f x) xs j d h.0 (omega (arith, lt))
rising f (x ∷ xs) h (suc i) zero d le lt = absurd (omega (arith, le))
rising f (x ∷ xs) h (suc i) (suc j) d le lt = rising f xs h.1 i j d (omega (arith, le)) (omega (arith, lt))

later : Compares → {N : Type 0} (nodes : List (Node N)) (i kid : Identity) → AllByRecursion (λ k. id_cmp i k ≡ Less) (crate_ids nodes)
    → AllByRecursion (λ (node : Node N). ordering_index (id_cmp i kid) ≤ ordering_index (node_cmp node kid)) nodes
later o [] i kid h = tt
later o (Krate id k f m ∷ nodes) i kid h = (earlier o i id kid h.0, later o nodes i kid h.1)
later o (Feature krate_index name ∷ nodes) i kid h = (at_most_two (id_cmp i kid), later o nodes i kid h)

no_later : {N : Type 0} (nodes : List (Node N)) (kid : Identity) → crate_ids nodes ≡ [] → AllByRecursion (λ (node : Node N). 2 ≤ ordering_index (node_cmp node kid)) nodes
no_later [] kid none = tt
no_later (Krate id k f m ∷ nodes) kid none = absurd cc
no_later (Feature krate_index name ∷ nodes) kid none = (omega arith, no_later nodes kid none)

pub none_first : {N : Type 0} (nodes : List (Node N)) → crate_ids nodes ≡ [] → CratesFirst nodes
none_first [] none = tt
none_first (Krate id k f m ∷ nodes) none = absurd cc
none_first (Feature krate_index name ∷ nodes) none = none

rise : Compares → {N : Type 0} (nodes : List (Node N)) (kid : Identity) → IsStrictlySortedBy id_cmp (crate_ids nodes) → CratesFirst nodes → Rises (λ (node : Node N). ordering_index (node_cmp node kid)) nodes
unfolding IsStrictlySortedBy
rise o [] kid s first = tt
rise o (Krate id k f m ∷ nodes) kid s first = (later o nodes id kid s.0, rise o nodes kid s.1 first)
rise o (Feature krate_index name ∷ nodes) kid s first = (no_later nodes kid first, rise o nodes kid s (none_first nodes first))

no_equal : {N : Type 0} (nodes : List (Node N)) (kid : Identity) (place : ℕ) → crate_ids nodes ≡ [] → place < length nodes → HoldsAt (λ node. node_cmp node kid ≡ Equal) nodes place → ⊥
no_equal [] kid place none lt at = omega (arith, lt)
no_equal (Krate id k f m ∷ nodes) kid place none lt at = absurd cc
no_equal (Feature krate_index name ∷ nodes) kid zero none lt at = (let h : Greater ≡ Equal = at (Feature krate_index name) in cc)
no_equal (Feature krate_index name ∷ nodes) kid (suc place) none lt at = no_equal nodes kid place none (omega (arith, lt)) at

found_there : Compares → {N : Type 0} (nodes : List (Node N)) (kid : Identity) (place : ℕ) → CratesFirst nodes → place < length nodes
    → HoldsAt (λ node. node_cmp node kid ≡ Equal) nodes place → StandsAt (crate_ids nodes) (id_of kid) place
found_there o [] kid place first lt at = absurd (omega (arith, lt))
found_there o (Krate id k f m ∷ nodes) kid zero first lt at = record { there = id; at = refl; same = id_of_equal o id kid (at (Krate id k f m)) }
found_there o (Krate id k f m ∷ nodes) kid (suc place) first lt at =
    let w = found_there o nodes kid place first (omega (arith, lt)) at in
    record { there = w.there; at = w.at; same = w.same }
found_there o (Feature krate_index name ∷ nodes) kid place first lt at = absurd (no_equal (Feature krate_index name ∷ nodes) kid place first lt at)

-- the place that the search found
pub number_found : Compares → {N : Type 0} (nodes : List (Node N)) (kid : Identity) (place : ℕ) → AreNodes nodes → place < length nodes
    → HoldsAt (λ node. node_cmp node kid ≡ Equal) nodes place → (n : ℕ) → (place ≡ n) ↔ StandsAt (crate_ids nodes) (id_of kid) n
number_found o nodes kid place a lt at n =
    let there = found_there o nodes kid place a.first lt at in (
      λ e. subst (λ m. StandsAt (crate_ids nodes) (id_of kid) m) e there,
      λ h. one_place o (crate_ids nodes) a.ordered.ascending place n kid (stands_within (crate_ids nodes) (id_of kid) place there) (stands_within (crate_ids nodes) (id_of kid) n h)
          (stands_same (crate_ids nodes) (id_of kid) place kid there ∙ sym (stands_same (crate_ids nodes) (id_of kid) n kid h)),
    )

-- the search found none
pub no_number : Compares → {N : Type 0} (nodes : List (Node N)) (kid : Identity) (place : ℕ) → AreNodes nodes
    → (IsNonDecreasingBy (λ (node : Node N). ordering_index (node_cmp node kid)) nodes → IsPartitionPoint (λ (node : Node N). node_cmp node kid ≡ Less) (λ (node : Node N). node_cmp node kid ≡ Greater) nodes place)
    → (n : ℕ) → StandsAt (crate_ids nodes) (id_of kid) n → ⊥
no_number o {N} nodes kid place a parts n h =
    let w = crate_at nodes n h.there a.first h.at in
    let lt : n < length nodes = slice_get_within nodes n w.node w.at in
    let rises = rising (λ (node : Node N). ordering_index (node_cmp node kid)) nodes (rise o nodes kid a.ordered.ascending a.first) in
    let node : get_or nodes n w.node ≡ w.node = get_or_from_slice_get nodes n w.node w.node w.at in
    let equal : node_cmp w.node kid ≡ Equal = ap (λ (x : Node N). node_cmp x kid) w.is.is ∙ equal_of o h.there kid h.same in
    none_equal (λ (x : Node N). node_cmp x kid) nodes place (parts rises) n w.node lt (ap (λ (x : Node N). node_cmp x kid) node ∙ equal)

-- ---- the features of a crate

told : {X : Type 0} (view : X → List Text) (r : Option X) (ids : List Identity) (features : List (List Text)) (id : Id) (n : ℕ) (names : List Text) (P : Type 0)
    → StandsAt ids id n → slice_get features n ≡ Some names → option_map view r ≡ slice_get features n → MatchOption r P (λ x. HasFeatures ids features id (view x))
told view None ids features id n names P stands some e = absurd cc
told view (Some x) ids features id n names P stands some e = record { place = n; stands = stands; at = sym e }

-- what is found for the number of a crate are the names of its features
pub features_told : {N X : Type 0} (view : X → List Text) (r : Option X) (nodes : List (Node N)) (id : Id) (n : ℕ) (P : Type 0) → AreNodes nodes → StandsAt (crate_ids nodes) id n
    → option_map view r ≡ slice_get (crate_features nodes) n → MatchOption r P (λ x. HasFeatures (crate_ids nodes) (crate_features nodes) id (view x))
features_told view r nodes id n P a stands e =
    let w = crate_at nodes n stands.there a.first stands.at in
    told view r (crate_ids nodes) (crate_features nodes) id n w.names P stands w.enabled e

-- ==== the ids of the crates among the nodes

-- the id of a crate's number is the id at that place
pub crate_id : (ids : List Identity) (n : ℕ) (id : Identity) → slice_get ids n ≡ Some id → id_at ids n ≡ id_of id
crate_id ids n id at = get_or_from_slice_get (map id_of ids) n (id_of id) no_id (slice_get-map id_of ids n ∙ ap (λ (o : Option Identity). option_map id_of o) at)

-- the crates of two lists of nodes, one after the other
ids_joined : {N : Type 0} (xs ys : List (Node N)) → crate_ids (xs ++ ys) ≡ crate_ids xs ++ crate_ids ys
ids_joined [] ys = refl
ids_joined (Krate i k f m ∷ xs) ys = ap (λ is. i ∷ is) (ids_joined xs ys)
ids_joined (Feature k name ∷ xs) ys = ids_joined xs ys

-- one more node
pub ids_more : {N : Type 0} (xs : List (Node N)) (i : ℕ) (x : Node N) → i < length xs → x ≡ get_or xs i x → crate_ids (take (i + 1) xs) ≡ crate_ids (take i xs) ++ crate_ids (x ∷ [])
ids_more xs i x lt is = ap crate_ids (take_more xs i x lt ∙ ap (λ z. take i xs ++ z ∷ []) (sym is)) ∙ ids_joined (take i xs) (x ∷ [])

-- ==== the enabled features of the crates among the nodes, as facts: a feature is among them exactly if it is among those of a crate

-- what is enabled for the crate at a place is among the facts
listed : {N : Type 0} (nodes : List (Node N)) (i : Id) (f : Text) (place : ℕ) (there : Identity) (names : List Text) → slice_get (crate_ids nodes) place ≡ Some there → id_of there ≡ i
    → slice_get (crate_features nodes) place ≡ Some names → Member names f → Member (enabled_facts nodes) (facts.Feature i f)
listed [] i f place there names at same got m = absurd cc (at)
listed (Krate id krate features mapping ∷ nodes) i f zero there names at same got m =
    let is : id ≡ there = cc at in
    let have : names_in features ≡ names = cc got in
    let here : id_of id ≡ i = ap id_of is ∙ same in
    let mine = member_map (facts.Feature (id_of id)) (names_in features) f (subst (λ (ns : List Text). Member ns f) (sym have) m) in
    member_left (map (facts.Feature (id_of id)) (names_in features)) (enabled_facts nodes) (facts.Feature i f) (subst (λ (k : Id). Member (map (facts.Feature (id_of id)) (names_in features)) (facts.Feature k f)) here mine)
listed (Krate id krate features mapping ∷ nodes) i f (suc n) there names at same got m =
    member_right (map (facts.Feature (id_of id)) (names_in features)) (enabled_facts nodes) (facts.Feature i f) (listed nodes i f n there names at same got m)
listed (Feature krate_index name ∷ nodes) i f place there names at same got m = listed nodes i f place there names at same got m

-- the features of the crate behind one more are enabled still
behind : (x : Identity) (ids : List Identity) (own : List Text) (lists : List (List Text)) (i : Id) (f : Text) → IsEnabledIn ids lists i f → IsEnabledIn (x ∷ ids) (own ∷ lists) i f
behind x ids own lists i f h = record {
  names = h.names;
  theirs = record { place = suc h.theirs.place; stands = record { there = h.theirs.stands.there; at = h.theirs.stands.at; same = h.theirs.stands.same }; at = h.theirs.at };
  among = h.among;
}

-- a fact among them is that of a feature of some crate
enabled : {N : Type 0} (nodes : List (Node N)) (i : Id) (f : Text) → Member (enabled_facts nodes) (facts.Feature i f) → IsEnabledIn (crate_ids nodes) (crate_features nodes) i f
enabled [] i f m = absurd m
enabled (Krate id krate features mapping ∷ nodes) i f m =
    elim (member_append (map (facts.Feature (id_of id)) (names_in features)) (enabled_facts nodes) (facts.Feature i f) m) [
      | inl own ↦ (let w = mapped_of (facts.Feature (id_of id)) (names_in features) (facts.Feature i f) own in
          let is : id_of id ≡ i = cc (w.is) in
          let name : w.from ≡ f = cc (w.is) in
          record {
            names = names_in features;
            theirs = record { place = zero; stands = record { there = id; at = refl; same = is }; at = refl };
            among = contains_of (names_in features) f (subst (λ (n : Text). Member (names_in features) n) name w.member);
          })
      | inr rest ↦ behind id (crate_ids nodes) (names_in features) (crate_features nodes) i f (enabled nodes i f rest)
    ]
enabled (Feature krate_index name ∷ nodes) i f m = enabled nodes i f m

-- a feature is enabled for a kept crate exactly if its fact is among those of the nodes
pub enabled_listed : {N : Type 0} (nodes : List (Node N)) (i : Id) (f : Text) → IsEnabledIn (crate_ids nodes) (crate_features nodes) i f ↔ Contains (enabled_facts nodes) (facts.Feature i f)
enabled_listed nodes i f = (
  λ h. contains_of (enabled_facts nodes) (facts.Feature i f) (listed nodes i f h.theirs.place h.theirs.stands.there h.names h.theirs.stands.at h.theirs.stands.same h.theirs.at (member_of h.names f h.among)),
  λ c. enabled nodes i f (member_of (enabled_facts nodes) (facts.Feature i f) c),
)

-- ==== the nodes of enabled features: how they are ordered, and what a search for one finds

-- ---- the order

pub feature_total : IsTotalOrder feature_order
feature_total = search (comparing, rules) depth 9

-- ---- where a feature is

-- a crate isn't a feature
not_feature : {N : Type 0} (id : Identity) (krate : N) (features : BTreeSet (String Global)) (mapping : Vec (Option ℕ)) (node : Node N) (number : ℕ) (name : Text)
    → Some (Krate id krate features mapping) ≡ Some node → IsFeature number name node → ⊥
not_feature id krate features mapping (Krate i k f m) number name e is = is
not_feature id krate features mapping (Feature k t) number name e is = cc e

-- the feature at the front
is_front : {N : Type 0} (k : ℕ) (t : String Global) (node : Node N) (number : ℕ) (name : Text) → Some (Feature k t) ≡ Some node → IsFeature number name node → ◌≡◌ {A = ℕ × Text} (k, text_view t) (number, name)
is_front k t (Krate i c f m) number name e is = absurd is
is_front k t (Feature j u) number name e is =
    let first : k ≡ j = cc e in
    let second : t ≡ u = cc e in
    ap (λ (a : ℕ). (a, text_view t)) (first ∙ is.0) ∙ ap (λ (b : Text). (number, b)) (ap text_view second ∙ is.1)

pub feature_member : {N : Type 0} (nodes : List (Node N)) (n number : ℕ) (name : Text) → IsFeatureAt nodes n number name → Member (feature_names nodes) (number, name)
feature_member [] n number name h = absurd cc (h.at)
feature_member (Krate i k f m ∷ nodes) zero number name h = absurd (not_feature i k f m h.node number name h.at h.is)
feature_member (Krate i k f m ∷ nodes) (suc n) number name h = feature_member nodes n number name (record { node = h.node; at = h.at; is = h.is })
feature_member (Feature k t ∷ nodes) zero number name h = inl (is_front k t h.node number name h.at h.is)
feature_member (Feature k t ∷ nodes) (suc n) number name h = inr (feature_member nodes n number name (record { node = h.node; at = h.at; is = h.is }))

pub record Stands {N : Type 0} (nodes : List (Node N)) (number : ℕ) (name : Text) : Type 0 where
  pub n : ℕ
  pub at : IsFeatureAt nodes n number name

one_later : {N : Type 0} (node : Node N) (nodes : List (Node N)) (number : ℕ) (name : Text) → Stands nodes number name → Stands (node ∷ nodes) number name
one_later node nodes number name w = record { n = suc w.n; at = record { node = w.at.node; at = w.at.at; is = w.at.is } }

pub member_feature : {N : Type 0} (nodes : List (Node N)) (number : ℕ) (name : Text) → Member (feature_names nodes) (number, name) → Stands nodes number name
member_feature [] number name m = absurd m
member_feature (Krate i k f m ∷ nodes) number name h = one_later (Krate i k f m) nodes number name (member_feature nodes number name h)
member_feature (Feature k t ∷ nodes) number name (inl e) =
    record { n = zero; at = record { node = Feature k t; at = refl; is = (ap (λ (p : ℕ × Text). p.0) e, ap (λ (p : ℕ × Text). p.1) e) } }
member_feature (Feature k t ∷ nodes) number name (inr h) = one_later (Feature k t) nodes number name (member_feature nodes number name h)

-- the features after one are greater, so it isn't among them
each : {A : Type 0} (P : A → Type 0) (xs : List A) (z : A) → AllByRecursion P xs → Member xs z → P z
each P [] z h m = absurd m
each P (x ∷ xs) z h (inl e) = subst P e h.0
each P (x ∷ xs) z h (inr m) = each P xs z h.1 m

not_again : (x y : ℕ × Text) (names : List (ℕ × Text)) → AllByRecursion (λ z. feature_order x z ≡ Less) names → x ≡ y → Member names y → ⊥
not_again x y names h e m =
    let less : feature_order x y ≡ Less = each (λ z. feature_order x z ≡ Less) names y h m in
    let equal : feature_order x y ≡ Equal = ap (λ z. feature_order x z) (sym e) ∙ equal_self feature_total x in
    cc (less, equal)

-- each feature has one node
pub one_feature : {N : Type 0} (nodes : List (Node N)) (n m number : ℕ) (name : Text) → IsStrictlySortedBy feature_order (feature_names nodes)
    → IsFeatureAt nodes n number name → IsFeatureAt nodes m number name → n ≡ m
unfolding IsStrictlySortedBy
one_feature [] n m number name s a b = absurd cc (a.at)
one_feature (Krate i k f l ∷ nodes) zero m number name s a b = absurd (not_feature i k f l a.node number name a.at a.is)
one_feature (Krate i k f l ∷ nodes) (suc n) zero number name s a b = absurd (not_feature i k f l b.node number name b.at b.is)
one_feature (Krate i k f l ∷ nodes) (suc n) (suc m) number name s a b =
    ap suc (one_feature nodes n m number name s (record { node = a.node; at = a.at; is = a.is }) (record { node = b.node; at = b.at; is = b.is }))
one_feature (Feature k t ∷ nodes) zero zero number name s a b = refl
one_feature (Feature k t ∷ nodes) zero (suc m) number name s a b =
    absurd (not_again (k, text_view t) (number, name) (feature_names nodes) s.0 (is_front k t a.node number name a.at a.is) (feature_member nodes m number name (record { node = b.node; at = b.at; is = b.is })))
one_feature (Feature k t ∷ nodes) (suc n) zero number name s a b =
    absurd (not_again (k, text_view t) (number, name) (feature_names nodes) s.0 (is_front k t b.node number name b.at b.is) (feature_member nodes n number name (record { node = a.node; at = a.at; is = a.is })))
one_feature (Feature k t ∷ nodes) (suc n) (suc m) number name s a b =
    ap suc (one_feature nodes n m number name s.1 (record { node = a.node; at = a.at; is = a.is }) (record { node = b.node; at = b.at; is = b.is }))

-- ---- what a search finds

features_later : {N : Type 0} (nodes : List (Node N)) (x : ℕ × Text) (number : ℕ) (name : Text) → crate_ids nodes ≡ [] → AllByRecursion (λ y. feature_order x y ≡ Less) (feature_names nodes)
    → AllByRecursion (λ (node : Node N). ordering_index (feature_order x (number, name)) ≤ ordering_index (feature_cmp node number name)) nodes
features_later [] x number name none h = tt
features_later (Krate i k f m ∷ nodes) x number name none h = absurd cc
features_later (Feature k t ∷ nodes) x number name none h =
    (weakly feature_total x (k, text_view t) (number, name) Less h.0 (λ e. cc e), features_later nodes x number name none h.1)

pub lowest : {N : Type 0} (nodes : List (Node N)) (f : Node N → ℕ) → AllByRecursion (λ (node : Node N). 0 ≤ f node) nodes
lowest [] f = tt
lowest (node ∷ nodes) f = (omega arith, lowest nodes f)

pub features_rise : {N : Type 0} (nodes : List (Node N)) (number : ℕ) (name : Text) → CratesFirst nodes → IsStrictlySortedBy feature_order (feature_names nodes)
    → Rises (λ (node : Node N). ordering_index (feature_cmp node number name)) nodes
unfolding IsStrictlySortedBy
features_rise [] number name first s = tt
features_rise (Krate i k f m ∷ nodes) number name first s = (lowest nodes (λ node. ordering_index (feature_cmp node number name)), features_rise nodes number name first s)
features_rise (Feature k t ∷ nodes) number name first s = (features_later nodes (k, text_view t) number name first s.0, features_rise nodes number name (none_first nodes first) s.1)

pub feature_equal : {N : Type 0} (node : Node N) (number : ℕ) (name : Text) → feature_cmp node number name ≡ Equal → IsFeature number name node
feature_equal (Krate i k f m) number name e = cc e
feature_equal (Feature k t) number name e =
    let parts = then_equal (nat_cmp k number) (slice_cmp nat_cmp (text_view t) name) e in
    (exact_unsigned k number parts.0, (text_tells (text_view t) name).0 parts.1)

pub equal_feature : {N : Type 0} (node : Node N) (number : ℕ) (name : Text) → IsFeature number name node → feature_cmp node number name ≡ Equal
equal_feature (Krate i k f m) number name is = absurd is
equal_feature (Feature k t) number name is =
    ap (λ (j : ℕ). feature_order (j, text_view t) (number, name)) is.0 ∙ ap (λ (u : Text). feature_order (number, u) (number, name)) is.1 ∙ equal_self feature_total (number, name)

-- ---- the node of a crate or of a feature

-- the number is that of a node
pub number_among : {N : Type 0} (nodes : List (Node N)) (id : Id) (feature : Option Text) (n : ℕ) → IsNumberFor nodes id feature n → n < length nodes
number_among nodes id None n h = subst (λ k. k < length nodes) (sym h.is) (stands_among nodes id h.number h.stands)
number_among nodes id (Some name) n h = slice_get_within nodes n h.is.node h.is.at

found_enabled : {N : Type 0} (nodes : List (Node N)) (id : Id) (name : Text) (n : ℕ) → AreNodes nodes → IsNumberFor nodes id (Some name) n → IsEnabledIn (crate_ids nodes) (crate_features nodes) id name
found_enabled nodes id name n a h =
    let named = (a.features.exactly h.number name).0 (contains_of (feature_names nodes) (h.number, name) (feature_member nodes n h.number name h.is)) in
    record { names = named.names; theirs = record { place = h.number; stands = h.stands; at = named.at }; among = named.among }

some_of : (number : Option ℕ) (P : Type 0) → IsSome number → ((n : ℕ) → number ≡ Some n → P) → P
some_of None P some h = absurd cc
some_of (Some n) P some h = h n refl

-- a feature's node is found exactly where it is enabled for its crate
pub enabled_told : {N F : Type 0} (nodes : List (Node N)) (id : Id) (view : F → Text) (feature : Option F) (number : Option ℕ) → AreNodes nodes
    → ((n : ℕ) → (number ≡ Some n) ↔ IsNumberFor nodes id (option_map view feature) n)
    → MatchOption feature ⊤ (λ name. IsSome number ↔ Contains (enabled_facts nodes) (facts.Feature id (view name)))
enabled_told nodes id view None number a so = tt
enabled_told nodes id view (Some f) number a so = (
  λ some. some_of number (Contains (enabled_facts nodes) (facts.Feature id (view f))) some (λ n e. (enabled_listed nodes id (view f)).0 (found_enabled nodes id (view f) n a ((so n).0 e))),
  λ among.
      (let h = (enabled_listed nodes id (view f)).1 among in
      let there = (a.features.exactly h.theirs.place (view f)).1 (record { names = h.names; at = h.theirs.at; among = h.among }) in
      let w = member_feature nodes h.theirs.place (view f) (member_of (feature_names nodes) (h.theirs.place, view f) there) in
      let e : number ≡ Some w.n = (so w.n).1 (record { number = h.theirs.place; stands = h.theirs.stands; is = w.at }) in
      subst (λ (o : Option ℕ). IsSome o) (sym e) refl),
)

-- ---- the id of a node's crate

not_some : {A : Type 0} (o : Option A) → o ≡ None → IsSome o → ⊥
not_some None e some = cc some
not_some (Some x) e some = cc e

kid_step : {N : Type 0} (nodes : List (Node N)) (n : ℕ) (o : Option (Node N)) → AreNodes nodes → slice_get nodes n ≡ o → IsSome (id_in (slice_get nodes (home_in n o))) ↔ (n < length nodes)
kid_step nodes n None a e = (
  λ some. absurd (not_some (id_in (slice_get nodes n)) (ap id_in e) some),
  λ lt. (let w = got nodes n lt in absurd (none-some w.0 (sym e ∙ w.1))),
)
kid_step nodes n (Some (Krate i k f m)) a e = (
  λ some. slice_get_within nodes n (Krate i k f m) e,
  λ lt. subst (λ o. IsSome (id_in o)) (sym e) refl,
)
kid_step nodes n (Some (Feature k t)) a e =
    let own = feature_member nodes n k (text_view t) (record { node = Feature k t; at = e; is = (refl, refl) }) in
    let named = (a.features.exactly k (text_view t)).0 (contains_of (feature_names nodes) (k, text_view t) own) in
    let within : k < length (crate_ids nodes) = subst (λ m. k < m) (as_many_features nodes) (slice_get_within (crate_features nodes) k named.names named.at) in
    let there = got (crate_ids nodes) k within in
    let crate = crate_at nodes k there.0 a.first there.1 in (
      λ some. slice_get_within nodes n (Feature k t) e,
      λ lt. subst (λ o. IsSome (id_in o)) (sym (crate.at ∙ ap (λ node. Some node) crate.is.is)) refl,
    )

-- exactly the nodes have one
pub kid_there : {N : Type 0} (nodes : List (Node N)) (n : ℕ) → AreNodes nodes → IsSome (kid_at nodes n) ↔ (n < length nodes)
kid_there nodes n a = kid_step nodes n (slice_get nodes n) a refl

pub some_lent : {A B : Type 0} (f : A → B) (o : Option A) → IsSome (option_map f o) ↔ IsSome o
some_lent f None = (λ h. h, λ h. h)
some_lent f (Some x) = (λ h. refl, λ h. refl)
