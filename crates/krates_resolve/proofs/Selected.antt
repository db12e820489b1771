-- A selection that is made of the crates, edges and features that were found.
use Rattle.std.proofs.Common.{◌≡◌, ℕ, ◌<◌, List, length, get_or, map, All, Contains, Option, Some, option_map, inl, inr, sym, ap, ◌∙◌, subst, arith}
use Rattle.std.proofs.lemmas.List.{length-map}
use Rattle.std.proofs.lemmas.List.Elements.{Contains-append_left, Contains-append_right, Contains-append_cases}
use Rattle.std.proofs.lemmas.Option.{slice_get-map}
use Rattle.std.specs.List.{AllZip, slice_get}
use Rattle.std.specs.List.Sorted.{IsPermutation, IsStrictlySortedBy}
use Rattle.std.proofs.lemmas.List.Sorted.{Contains-permutation, IsPermutation-sym}
use Rattle.krates_cm.specs.Document.{NodeModel, text_view}
use Rattle.krates_ids.specs.Identity.{Identity, Reads, id_cmp}
use Rattle.krates_rules.specs.Admission.{NoneDoubled, node_texts}
use Rattle.krates_rules.specs.Facts.{Id, Edge, Fact, Crate, Feature, Kept, Toggled, Lost}
use Rattle.krates_rules.specs.Resolved.{id_of}
use Rattle.krates_selection.specs.Selection.{id_at, edge_view, crate_fact, edge_fact, feature_fact, toggled_fact, facts_of, IsSelection, CountsEach}
use Rattle.krates_search.specs.Found.{found_view, IsFoundEdge, found_toggled, IsFoundToggle}
use Rattle.krates_selection.specs.KeptTables.{IsKeptIn}
use Rattle.krates_search.specs.declared.search_state.SearchState.{SearchState}
use Rattle.krates_search.specs.declared.found.FoundEdge.{FoundEdge}
use Rattle.krates_search.specs.declared.found.FoundToggle.{FoundToggle}
use Rattle.krates_selection.specs.declared.selection.Selection.{Selection}
use Rattle.krates_rules.proofs.Readings.{ReadsOnce}
use Rattle.krates_resolve.specs.KeptCrates.{AreAt, AreKept}
use Rattle.krates_rules.proofs.FirstPlaces.{seen_at}
use Rattle.krates_questions.proofs.Lookups.{one_id}
use Rattle.krates_questions.proofs.FeatureNumbers.{listed_place}
use Rattle.krates_questions.proofs.NodeParts.{long_zip, node_here}
use Rattle.krates_questions.specs.FeatureTable.{listed_features}
use Rattle.krates_questions.specs.Lookup.{IsLookup}
use Rattle.krates_rules.proofs.Elements.{contains_image, contains_or, contains_source}
use Rattle.krates_search.proofs.LinkLemmas.{there_is}
use Rattle.krates_selection.proofs.KeptEnds.{child_kept, crate_of_feature, parent_kept, toggled_kept}
use Rattle.krates_rules.proofs.OnlyOne.{place_in}
use Rattle.krates_rules.proofs.Standings.{contains_at}
use Rattle.krates_questions.specs.declared.context.Context.{Context}
use Rattle.krates_questions.specs.Context.{document_of, rules_of, Derives, IsNodeAt, IsFeatureAt}
use Rattle.krates_search.specs.KeptLists.{AreToggled, HasKeptCrates, AreSorted, HasKeptHome, HasKeptNodes, AreInOrder}
use Rattle.krates_resolve.specs.Saturation.{HasExactly}

-- ---- the ids at places

kid_at : (ids : List Identity) (places : List ℕ) (kids : List Identity) (p : ℕ) → AreAt ids places kids → Contains places p → (kid : Identity) × Contains kids kid × (slice_get ids p ≡ Some kid)
kid_at ids places kids p same c =
    let at = place_in places p c in
    let here = ap (λ xs. slice_get xs at.0) (sym same) ∙ slice_get-map (slice_get ids) places at.0 ∙ ap (option_map (slice_get ids)) at.1 in
    let s = seen_at (λ (k : Identity). Some k) kids at.0 (slice_get ids p) here in
    (get_or kids at.0 s.0, contains_or kids at.0 s.0 s.1, sym s.2)

place_of_kid : (ids : List Identity) (places : List ℕ) (kids : List Identity) (kid : Identity) → AreAt ids places kids → Contains kids kid → (p : ℕ) × Contains places p × (slice_get ids p ≡ Some kid)
place_of_kid ids places kids kid same c =
    let at = place_in kids kid c in
    let here = ap (λ xs. slice_get xs at.0) same ∙ slice_get-map (λ (k : Identity). Some k) kids at.0 ∙ ap (option_map (λ (k : Identity). Some k)) at.1 in
    let s = seen_at (slice_get ids) places at.0 (Some kid) here in
    (get_or places at.0 s.0, contains_or places at.0 s.0 s.1, s.2)

-- ---- the kept crates

-- the ids of the nodes, by their places
abbrev ids_at : Context → List Identity
ids_at b = b.document.now.ids.now.nodes.items

-- what was found is exactly what is derivable, and these are the ids of its crates, in order
pub record IsWhole (b : Context) (found : SearchState) (kids : List Identity) : Type 0 where
  pub none_doubled : NoneDoubled (document_of b).metadata (document_of b).graph
  pub reads : AllZip Reads (node_texts (document_of b).graph) (ids_at b)
  pub exact : HasExactly b found
  pub order : List ℕ
  pub whole : IsPermutation found.krates.put order
  pub krates : AreAt (ids_at b) order kids
  pub some : 0 < length found.krates.put
  pub rise : IsStrictlySortedBy id_cmp kids

-- as the search's result is read
pub whole_of : (b : Context) (found : SearchState) (kids : List Identity) (numbers : List (Option ℕ)) → IsLookup b.document.now → HasExactly b found → AreKept b.document.now found.krates.put kids numbers → 0 < length found.krates.put → IsWhole b found kids
whole_of b found kids numbers h exact kept some = record {
  none_doubled = h.distinct;
  reads = h.ids.nodes;
  exact = exact;
  order = kept.order;
  whole = kept.whole;
  krates = kept.krates;
  some = some;
  rise = kept.ascending;
}

-- the crate at a place where one was found
kept_at : (b : Context) (found : SearchState) (kids : List Identity) (p : ℕ) → IsWhole b found kids → Contains found.krates.put p → (kid : Identity) × Contains kids kid × IsNodeAt b (id_of kid) p
kept_at b found kids p whole c =
    let k = kid_at (ids_at b) whole.order kids p whole.krates (Contains-permutation found.krates.put whole.order p whole.whole c) in
    (k.0, k.1, node_here (document_of b) (ids_at b) p k.0 whole.reads k.2)

-- a derivable crate is kept
crate_kept : ReadsOnce → (b : Context) (found : SearchState) (kids : List Identity) → IsWhole b found kids → (i : Id) → Derives b (Crate i) → IsKeptIn kids i
crate_kept once b found kids whole i d =
    let there = (whole.exact (Crate i)).0 d in
    let k = kept_at b found kids there.place whole there.among in
    let at = place_in kids k.0 k.1 in
    (at.0, record { there = k.0; at = at.1; same = one_id once (document_of b) (id_of k.0) i there.place k.2 there.node })

-- and so are the crates of what was found
ends_kept : ReadsOnce → (b : Context) (found : SearchState) (kids : List Identity) → IsWhole b found kids → (e : FoundEdge) → Contains found.edges.items e → IsFoundEdge b e
    → HasKeptNodes b kids e
ends_kept once b found kids whole e c is =
    let d = (whole.exact (Kept (found_view e))).1 (contains_image found_view found.edges.items e c) in
    let q = rules_of b in record {
      parent = is.parent;
      child = is.child;
      parent_kept = crate_kept once b found kids whole (id_of e.parent.now) (parent_kept q (found_view e) d).0;
      child_kept = crate_kept once b found kids whole (id_of e.child.now) (child_kept q (found_view e) d);
    }

toggle_kept : ReadsOnce → (b : Context) (found : SearchState) (kids : List Identity) → IsWhole b found kids → (t : FoundToggle) → Contains found.toggled.items t → IsFoundToggle b t
    → HasKeptCrates b kids t
toggle_kept once b found kids whole t c is =
    let d = (whole.exact (found_toggled t)).1 (contains_image found_toggled found.toggled.items t c) in
    let k = toggled_kept (rules_of b) (id_of t.by.now) (id_of t.krate.now) t.name.now d in record {
      by = is.by;
      krate = is.krate;
      by_kept = crate_kept once b found kids whole (id_of t.by.now) k.0;
      krate_kept = crate_kept once b found kids whole (id_of t.krate.now) k.1;
    }

feature_kept : ReadsOnce → (b : Context) (found : SearchState) (kids : List Identity) → IsWhole b found kids → (n : ℕ) → Contains found.features.put n → n < length (listed_features (document_of b))
    → HasKeptHome b kids n
feature_kept once b found kids whole n c lt =
    let listed = there_is (listed_features (document_of b)) n lt in
    let place = listed.0.0 in
    let name = listed.0.1 in
    let within = listed_place (document_of b) n place name listed.1 in
    let long = long_zip Reads (node_texts (document_of b).graph) (ids_at b) whole.reads in
    let texts = length-map (document_of b).graph.nodes (λ (n : NodeModel). n.id) in
    let kid = there_is (ids_at b) place (omega (arith, within, long, texts)) in
    let at : IsFeatureAt b (id_of kid.0) name n = record { place = place; at = listed.1; node = node_here (document_of b) (ids_at b) place kid.0 whole.reads kid.1 } in
    let d = (whole.exact (Feature (id_of kid.0) name)).1 (record { number = n; among = c; at = at }) in
    let kept = crate_kept once b found kids whole (id_of kid.0) (crate_of_feature (rules_of b) (id_of kid.0) name d) in
    record { krate = id_of kid.0; name = name; at = at; kept = kept }

-- all of them, by the names that the search's result has where it is read
pub edges_kept : ReadsOnce → (b : Context) (found : SearchState) (kids : List Identity) → IsWhole b found kids → All (IsFoundEdge b) found.edges.items
    → (ks : List Identity) (es : List FoundEdge) → ks ≡ kids → es ≡ found.edges.items → All (HasKeptNodes b ks) es
edges_kept once b found kids whole right ks es same is =
    subst (All (HasKeptNodes b ks)) (sym is) (subst (λ (js : List Identity). All (HasKeptNodes b js) found.edges.items) (sym same) (λ k d lt.
    ends_kept once b found kids whole (get_or found.edges.items k d) (contains_or found.edges.items k d lt) (right k d lt)))

pub toggles_kept : ReadsOnce → (b : Context) (found : SearchState) (kids : List Identity) → IsWhole b found kids → All (IsFoundToggle b) found.toggled.items
    → (ks : List Identity) (ts : List FoundToggle) → ks ≡ kids → ts ≡ found.toggled.items → All (HasKeptCrates b ks) ts
toggles_kept once b found kids whole right ks ts same is =
    subst (All (HasKeptCrates b ks)) (sym is) (subst (λ (js : List Identity). All (HasKeptCrates b js) found.toggled.items) (sym same) (λ k d lt.
    toggle_kept once b found kids whole (get_or found.toggled.items k d) (contains_or found.toggled.items k d lt) (right k d lt)))

pub features_kept : ReadsOnce → (b : Context) (found : SearchState) (kids : List Identity) → IsWhole b found kids → All (λ n. n < length (listed_features (document_of b))) found.features.put
    → (ks : List Identity) (ns : List ℕ) → ks ≡ kids → ns ≡ found.features.put → All (HasKeptHome b ks) ns
features_kept once b found kids whole below ks ns same is =
    subst (All (HasKeptHome b ks)) (sym is) (subst (λ (js : List Identity). All (HasKeptHome b js) found.features.put) (sym same) (λ k d lt.
    feature_kept once b found kids whole (get_or found.features.put k d) (contains_or found.features.put k d lt) (below k d lt)))

-- ---- the facts of a selection

-- the selection has all that was found, in order
pub record IsInOrder (b : Context) (found : SearchState) (x : Selection) : Type 0 where
  pub edges : AreInOrder b x.krates.items found.edges.items x.edges.items
  pub features : AreSorted b x.krates.items found.features.put x.features.items
  pub toggled : AreToggled x.krates.items found.toggled.items x.toggled.items

pub selected : ReadsOnce → (b : Context) (found : SearchState) (x : Selection) → IsWhole b found x.krates.items → IsInOrder b found x
    → CountsEach (document_of b) b.setting.now x.krates.items x.features.items x.work → IsSelection (document_of b) b.setting.now x
selected once b found x whole order counts = record {
  facts = λ f. (forth f, back f);
  some = root;
  krates = whole.rise;
  edges = order.edges.ascending;
  ends = order.edges.ends;
  placed = order.edges.placed;
  features = order.features.ascending;
  homes = order.features.homes;
  toggled = order.toggled.ascending;
  toggled_crates = order.toggled.crates;
  work = counts;
}
  where
    kids : List Identity
    kids = x.krates.items

    crates : List Fact
    crates = map crate_fact kids

    edges : List Fact
    edges = map (edge_fact kids) x.edges.items

    features : List Fact
    features = map (feature_fact kids) x.features.items

    -- the crate at the first place
    root : (i : Id) × Derives b (Crate i)
    root =
        let place = get_or found.krates.put 0 0 in
        let among = contains_or found.krates.put 0 0 whole.some in
        let k = kept_at b found kids place whole among in
        (id_of k.0, (whole.exact (Crate (id_of k.0))).1 (record { place = place; among = among; node = k.2 }))

    forth : (f : Fact) → Derives b f → Contains (facts_of x) f
    forth (Crate i) d =
        let k = crate_kept once b found kids whole i d in
        let among = contains_at kids k.0 k.1.there k.1.at in
        Contains-append_left crates _ (Crate i) (subst (λ (j : Id). Contains crates (Crate j)) k.1.same (contains_image crate_fact kids k.1.there among))
    forth (Kept e) d =
        let a = contains_source (edge_view kids) x.edges.items e ((order.edges.same e).0 ((whole.exact (Kept e)).0 d)) in
        let there = subst (λ (g : Edge). Contains edges (Kept g)) a.2 (contains_image (edge_fact kids) x.edges.items a.0 a.1) in
        Contains-append_right crates _ (Kept e) (Contains-append_left edges _ (Kept e) there)
    forth (Feature i g) d =
        let there = (order.features.each i g).0 ((whole.exact (Feature i g)).0 d) in
        Contains-append_right crates _ (Feature i g) (Contains-append_right edges _ (Feature i g) (Contains-append_left features _ (Feature i g) there))
    forth (Toggled p c g) d =
        let there = (order.toggled.same (Toggled p c g)).0 ((whole.exact (Toggled p c g)).0 d) in
        Contains-append_right crates _ (Toggled p c g) (Contains-append_right edges _ (Toggled p c g) (Contains-append_right features _ (Toggled p c g) there))
    forth (Lost c) d = absurd ((whole.exact (Lost c)).0 d)

    crate_back : (f : Fact) → Contains crates f → Derives b f
    crate_back f h =
        let a = contains_source crate_fact kids f h in
        let p = place_of_kid (ids_at b) whole.order kids a.0 whole.krates a.1 in
        let among = Contains-permutation whole.order found.krates.put p.0 (IsPermutation-sym found.krates.put whole.order whole.whole) p.1 in
        subst (Derives b) a.2 ((whole.exact (crate_fact a.0)).1 (record { place = p.0; among = among; node = node_here (document_of b) (ids_at b) p.0 a.0 whole.reads p.2 }))

    edge_back : (f : Fact) → Contains edges f → Derives b f
    edge_back f h =
        let a = contains_source (edge_fact kids) x.edges.items f h in
        subst (Derives b) a.2 ((whole.exact (edge_fact kids a.0)).1 ((order.edges.same (edge_view kids a.0)).1 (contains_image (edge_view kids) x.edges.items a.0 a.1)))

    feature_back : (f : Fact) → Contains features f → Derives b f
    feature_back f h =
        let a = contains_source (feature_fact kids) x.features.items f h in
        let among = contains_image (feature_fact kids) x.features.items a.0 a.1 in
        subst (Derives b) a.2 ((whole.exact (feature_fact kids a.0)).1 ((order.features.each (id_at kids a.0.krate) (text_view a.0.name)).1 among))

    toggled_back : (f : Fact) → Contains (map (toggled_fact kids) x.toggled.items) f → Derives b f
    toggled_back f h =
        let a = contains_source (toggled_fact kids) x.toggled.items f h in
        subst (Derives b) a.2 ((whole.exact (toggled_fact kids a.0)).1 ((order.toggled.same (toggled_fact kids a.0)).1 (contains_image (toggled_fact kids) x.toggled.items a.0 a.1)))

    back : (f : Fact) → Contains (facts_of x) f → Derives b f
    back f c = elim (Contains-append_cases crates _ f c) [
      | inl k ↦ crate_back f k
      | inr rest ↦ elim (Contains-append_cases edges _ f rest) [
        | inl e ↦ edge_back f e
        | inr more ↦ elim (Contains-append_cases features _ f more) [
          | inl g ↦ feature_back f g
          | inr t ↦ toggled_back f t
        ]
      ]
    ]
