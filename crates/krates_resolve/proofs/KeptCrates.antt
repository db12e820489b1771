-- The kept crates of a document are in order, and numbered, where they are gone over by their numbers in it.
use Rattle.std.proofs.Common.{◌≡◌, ◌≢◌, ℕ, zero, suc, ◌+◌, ◌<◌, List, [], ◌∷◌, ◌++◌, length, get_or, map, take, drop, replicate, All, AllPairs, ◌⊎◌, Contains, Option, None, Some, Less, inl, inr, refl, sym, ap, ◌∙◌, subst, arith}
use Rattle.std.proofs.Math.ListN.{set}
use Rattle.std.proofs.lemmas.List.{append_assoc, append-nil, get_or-take, length-map, length-replicate, length-set, map-append, length-take-le, length_push, take_more}
use Rattle.std.proofs.lemmas.List.Elements.{All-contains, All-from_recursion, Contains-append_cases, Contains-append_right, Contains-push_cases, filter_map-append}
use Rattle.std.proofs.lemmas.List.Sorted.{All-permutation, Contains-permutation, IsPermutation-cons, IsPermutation-push_more, IsPermutation-refl, IsPermutation-sym, IsPermutation-trans, IsPermutation-append_comm, IsPermutation-append_left, length_permutation}
use Rattle.std.proofs.lemmas.Option.{same_Some, slice_get-get_or, slice_get_cases, slice_get_within}
use Rattle.std.specs.List.{AllByRecursion, AllZip, filter_map, slice_get}
use Rattle.std.specs.Option.{IsSome, option_map}
use Rattle.std.specs.List.Sorted.{IsPermutation, IsStrictlySortedBy}
use Rattle.krates_ids.specs.Identity.{Identity}
use Rattle.krates_rules.specs.Facts.{Id}
use Rattle.krates_rules.specs.Referent.{id_order}
use Rattle.krates_rules.specs.Resolved.{NodeAt, id_of}
use Rattle.krates_document.specs.CrateTable.{AreNumbered, IsNumberOf}
use Rattle.krates_questions.specs.Lookup.{IsLookup, IsNumberIn, resolved_view}
use Rattle.krates_questions.specs.declared.lookup.Lookup.{Lookup}
use Rattle.krates_questions.specs.declared.lookup.NodePlace.{NodePlace}
use Rattle.krates_rules.proofs.OnlyOne.{one_node_place}
use Rattle.krates_rules.proofs.SeenInOrder.{equal_self, sorted_unseen}
use Rattle.krates_rules.proofs.Standings.{contains_at}
use Rattle.krates_questions.proofs.NodeParts.{node_here, nodes_long}
use Rattle.krates_document.proofs.NumberedPlaces.{id_order_total}
use Rattle.krates_search.proofs.LinkLemmas.{there_is}
use Rattle.krates_resolve.specs.KeptCrates.{AreAt, AreKept, AreNodePlaces}

-- the places that are there
abbrev pub there_in : List (Option NodePlace) → List ℕ
there_in kept = filter_map (option_map (λ (p : NodePlace). p.index)) kept

-- for each that is there, how many are there before it, counted on from a number
abbrev pub ranks_from : ℕ → List (Option NodePlace) → List (Option ℕ)
ranks_from n [] = []
ranks_from n (None ∷ places) = None ∷ ranks_from n places
ranks_from n (Some p ∷ places) = Some n ∷ ranks_from (n + 1) places

-- ---- the places of their nodes, by number

none_there : (n : ℕ) → there_in (replicate n None) ≡ []
none_there zero = refl
none_there (suc n) = none_there n

pub no_places : (d : Lookup) → AreNodePlaces d [] (replicate (length d.ids.now.table.ids.items) None)
no_places d =
    let n = length d.ids.now.table.ids.items in
    record {
      long = length-replicate n None;
      numbered = λ k p i at node. absurd (nothing n k p at);
      whole = subst (IsPermutation []) (sym (none_there n)) (IsPermutation-refl []);
    }
  where
    nothing : (n k : ℕ) (p : NodePlace) → slice_get (replicate n None) k ≡ Some (Some p) → ⊥
    nothing zero k p at = cc at
    nothing (suc n) zero p at = cc at
    nothing (suc n) (suc k) p at = nothing n k p at

-- what is at a number is there
there : (kept : List (Option NodePlace)) (n : ℕ) (p : NodePlace) → slice_get kept n ≡ Some (Some p) → Contains (there_in kept) p.index
there [] n p at = absurd (cc at)
there (None ∷ kept) zero p at = absurd (cc at)
there (Some q ∷ kept) zero p at = (zero, omega arith, ap (λ (x : NodePlace). x.index) (same_Some q p (same_Some (Some q) (Some p) at)))
there (None ∷ kept) (suc n) p at = there kept n p at
there (Some q ∷ kept) (suc n) p at = Contains-append_right (q.index ∷ []) (there_in kept) p.index (there kept n p at)

-- one more is there
there_more : (kept : List (Option NodePlace)) (n : ℕ) (p : NodePlace) → slice_get kept n ≡ Some None → IsPermutation (p.index ∷ there_in kept) (there_in (set kept n (Some p)))
there_more [] n p at = absurd (cc at)
there_more (None ∷ kept) zero p at = IsPermutation-refl (p.index ∷ there_in kept)
there_more (Some q ∷ kept) zero p at = absurd (cc at)
there_more (None ∷ kept) (suc n) p at = there_more kept n p at
there_more (Some q ∷ kept) (suc n) p at =
    IsPermutation-trans _ _ _ (IsPermutation-append_left (there_in kept) (p.index ∷ q.index ∷ []) (q.index ∷ p.index ∷ []) (IsPermutation-append_comm (p.index ∷ []) (q.index ∷ []))) (IsPermutation-cons q.index _ _ (there_more kept n p at))

-- what is at a number once a place was put at one
put_cases : (kept : List (Option NodePlace)) (n m : ℕ) (p q : NodePlace) → slice_get (set kept n (Some p)) m ≡ Some (Some q) → ((m ≡ n) × (q ≡ p)) ⊎ (slice_get kept m ≡ Some (Some q))
put_cases [] n m p q at = inr at
put_cases (o ∷ kept) zero zero p q at = inl (refl, sym (same_Some p q (same_Some (Some p) (Some q) at)))
put_cases (o ∷ kept) zero (suc m) p q at = inr at
put_cases (o ∷ kept) (suc n) zero p q at = inr at
put_cases (o ∷ kept) (suc n) (suc m) p q at = elim (put_cases kept n m p q at) [
  | inl w ↦ inl (ap suc w.0, w.1)
  | inr w ↦ inr w
]

-- each place has a node
pub node_there : (d : Lookup) (p : ℕ) → IsLookup d → p < length (resolved_view d).graph.nodes → (i : Id) × NodeAt (resolved_view d) i p
node_there d p h lt =
    let nodes = d.ids.now.nodes.items in
    let kid = there_is nodes p (subst (λ (m : ℕ). p < m) (nodes_long d h).0 lt) in
    (id_of kid.0, node_here (resolved_view d) nodes p kid.0 h.ids.nodes kid.1)

-- its number is that of a crate
pub number_low : (d : Lookup) (p n : ℕ) → IsLookup d → p < length (resolved_view d).graph.nodes → ((i : Id) → NodeAt (resolved_view d) i p → IsNumberIn d i (Some n)) → n < length d.ids.now.table.ids.items
number_low d p n h lt told =
    let node = node_there d p h lt in
    subst (λ (m : ℕ). n < m) (length-map d.ids.now.table.ids.items id_of) (slice_get_within (map id_of d.ids.now.table.ids.items) n node.0 (told node.0 node.1))

-- and it has one
pub some_number : (o : Option ℕ) → IsSome o → ((n : ℕ) → o ≡ Some n → ⊥) → ⊥
some_number None some none = cc some
some_number (Some n) some none = none n refl

-- no other place was put at the number of a place
fresh : (d : Lookup) (places : List ℕ) (k n p : ℕ) (kept : List (Option NodePlace)) → IsLookup d → All (λ q. q < length (resolved_view d).graph.nodes) places → AllPairs (λ a b. a ≢ b) places → k < length places → p ≡ get_or places k p
    → ((i : Id) → NodeAt (resolved_view d) i p → IsNumberIn d i (Some n)) → AreNodePlaces d (take k places) kept → n < length kept → slice_get kept n ≡ Some None
fresh d places k n p kept h within once lt is told so low = elim (slice_get_cases kept n).1 [
  | inl w ↦ free w.0 w.2
  | inr w ↦ absurd (omega (arith, low, w.0))
]
  where
    taken : (there_at : NodePlace) → slice_get kept n ≡ Some (Some there_at) → ⊥
    taken there_at at =
        let q = there_at.index in
        let c = Contains-permutation (there_in kept) (take k places) q (IsPermutation-sym (take k places) (there_in kept) so.whole) (there kept n there_at at) in
        let early : c.0 < k = omega (arith, c.1, length-take-le k places (omega (arith, lt))) in
        let here : get_or places c.0 q ≡ q = sym (get_or-take k places c.0 q early) ∙ c.2 in
        let a = node_there d q h (subst (λ (m : ℕ). m < length (resolved_view d).graph.nodes) here (within c.0 q (omega (arith, early, lt)))) in
        let b = node_there d p h (subst (λ (m : ℕ). m < length (resolved_view d).graph.nodes) (sym is) (within k p lt)) in
        let id : b.0 ≡ a.0 = same_Some b.0 a.0 (sym (told b.0 b.1) ∙ so.numbered n there_at a.0 at a.1) in
        let e : q ≡ p = one_node_place (resolved_view d) a.0 q p h.distinct a.1 (subst (λ (i : Id). NodeAt (resolved_view d) i p) id b.1) in
        once c.0 k p early lt (subst (λ (m : ℕ). get_or places c.0 m ≡ m) e here ∙ is)

    free : (o : Option NodePlace) → slice_get kept n ≡ Some o → slice_get kept n ≡ Some None
    free None at = at
    free (Some q) at = absurd (taken q at)

-- one more place is put
pub put_place : (d : Lookup) (places : List ℕ) (k n : ℕ) (p : NodePlace) (kept : List (Option NodePlace)) → IsLookup d → All (λ q. q < length (resolved_view d).graph.nodes) places → AllPairs (λ a b. a ≢ b) places → k < length places → p.index ≡ get_or places k p.index
    → ((i : Id) → NodeAt (resolved_view d) i p.index → IsNumberIn d i (Some n)) → n < length kept → AreNodePlaces d (take k places) kept → AreNodePlaces d (take (k + 1) places) (set kept n (Some p))
put_place d places k n p kept h within once lt is told low so =
    let more = set kept n (Some p) in
    let shuffled = IsPermutation-push_more (take k places) (there_in kept) (there_in more) p.index so.whole (there_more kept n p (fresh d places k n p.index kept h within once lt is told so low)) in
    record {
      long = length-set kept n (Some p) ∙ so.long;
      numbered = λ m q i at node. elim (put_cases kept n m p q at) [
        | inl w ↦ subst (λ (j : ℕ). IsNumberIn d i (Some j)) (sym w.0) (told i (subst (λ (x : NodePlace). NodeAt (resolved_view d) i x.index) w.1 node))
        | inr w ↦ so.numbered m q i w node
      ];
      whole = subst (λ (ps : List ℕ). IsPermutation ps (there_in more)) (sym (take_more places k p.index lt ∙ ap (λ (x : ℕ). take k places ++ x ∷ []) (sym is))) shuffled;
    }

-- ---- gone over

-- each is a place of a node
pub place_low : (d : Lookup) (places : List ℕ) (kept : List (Option NodePlace)) (k : ℕ) (p : NodePlace) → IsLookup d → All (λ q. q < length (resolved_view d).graph.nodes) places → AreNodePlaces d places kept → k < length kept → get_or kept k None ≡ Some p
    → p.index < length d.ids.now.nodes.items
place_low d places kept k p h within so lt is =
    let below : ℕ → Type 0 = λ q. q < length (resolved_view d).graph.nodes in
    let low = All-contains below (there_in kept) p.index (All-permutation below places (there_in kept) so.whole within) (there kept k p (slice_get-get_or kept k None lt ∙ ap (λ (o : Option NodePlace). Some o) is)) in
    subst (λ (m : ℕ). p.index < m) (nodes_long d h).0 low

-- the ids are those at the places that are there, and each of them has its rank
abbrev pub AreRanked : List Identity → List (Option NodePlace) → List Identity → List (Option ℕ) → Type 0
AreRanked ids kept kids numbers = AreAt ids (there_in kept) kids × (numbers ≡ ranks_from 0 kept)

ranks_push : (n : ℕ) (kept : List (Option NodePlace)) (o : Option NodePlace) → ranks_from n (kept ++ o ∷ []) ≡ ranks_from n kept ++ ranks_from (n + length (there_in kept)) (o ∷ [])
ranks_push n [] o = ap (λ (m : ℕ). ranks_from m (o ∷ [])) (omega arith)
ranks_push n (None ∷ kept) o = ap (λ (rs : List (Option ℕ)). None ∷ rs) (ranks_push n kept o)
ranks_push n (Some p ∷ kept) o =
    ap (λ (rs : List (Option ℕ)). Some n ∷ rs) (ranks_push (n + 1) kept o ∙ ap (λ (m : ℕ). ranks_from (n + 1) kept ++ ranks_from m (o ∷ [])) (omega arith))

kids_long : (ids : List Identity) (places : List ℕ) (kids : List Identity) → AreAt ids places kids → length kids ≡ length places
kids_long ids places kids at = sym (length-map kids (λ (k : Identity). Some k)) ∙ ap length (sym at) ∙ length-map places (slice_get ids)

-- a crate that isn't kept
pub ranked_none : (ids : List Identity) (kept : List (Option NodePlace)) (k : ℕ) (kids : List Identity) (numbers : List (Option ℕ)) → k < length kept → get_or kept k None ≡ None → AreRanked ids (take k kept) kids numbers
    → AreRanked ids (take (k + 1) kept) kids (numbers ++ None ∷ [])
ranked_none ids kept k kids numbers lt is so =
    subst (λ (os : List (Option NodePlace)). AreRanked ids os kids (numbers ++ None ∷ [])) (sym (take_more kept k None lt ∙ ap (λ (o : Option NodePlace). take k kept ++ o ∷ []) is))
    (subst (λ (ps : List ℕ). AreAt ids ps kids) (sym (filter_map-append (option_map (λ (p : NodePlace). p.index)) (take k kept) (None ∷ []) ∙ append-nil (there_in (take k kept)))) so.0, ap (λ (rs : List (Option ℕ)). rs ++ None ∷ []) so.1 ∙ sym (ranks_push 0 (take k kept) None))

-- one that is
pub ranked_some : (ids : List Identity) (kept : List (Option NodePlace)) (k : ℕ) (p : NodePlace) (kid : Identity) (kids : List Identity) (numbers : List (Option ℕ)) → k < length kept → get_or kept k None ≡ Some p → slice_get ids p.index ≡ Some kid
    → AreRanked ids (take k kept) kids numbers → AreRanked ids (take (k + 1) kept) (kids ++ kid ∷ []) (numbers ++ Some (length kids) ∷ [])
ranked_some ids kept k p kid kids numbers lt is at so =
    let early = take k kept in
    let long = kids_long ids (there_in early) kids so.0 in
    subst (λ (os : List (Option NodePlace)). AreRanked ids os (kids ++ kid ∷ []) (numbers ++ Some (length kids) ∷ [])) (sym (take_more kept k None lt ∙ ap (λ (o : Option NodePlace). early ++ o ∷ []) is)) (
      ap (map (slice_get ids)) (filter_map-append (option_map (λ (p : NodePlace). p.index)) early (Some p ∷ [])) ∙ map-append (slice_get ids) (there_in early) (p.index ∷ []) ∙ ap (λ (os : List (Option Identity)). os ++ slice_get ids p.index ∷ []) so.0
          ∙ ap (λ (o : Option Identity). map (λ (k : Identity). Some k) kids ++ o ∷ []) at ∙ sym (map-append (λ (k : Identity). Some k) kids (kid ∷ [])),
      ap (λ (rs : List (Option ℕ)). rs ++ Some (length kids) ∷ []) so.1 ∙ ap (λ (n : ℕ). ranks_from 0 early ++ Some n ∷ []) (omega (arith, long)) ∙ sym (ranks_push 0 early (Some p)),
    )

-- ---- by their ids

-- the ids whose place is there
abbrev picked : List Id → List (Option NodePlace) → List Id
picked [] kept = []
picked (i ∷ ids) [] = []
picked (i ∷ ids) (None ∷ kept) = picked ids kept
picked (i ∷ ids) (Some p ∷ kept) = i ∷ picked ids kept

above : (i : Id) (ids : List Id) (kept : List (Option NodePlace)) → AllByRecursion (λ j. id_order i j ≡ Less) ids → AllByRecursion (λ j. id_order i j ≡ Less) (picked ids kept)
above i [] kept h = tt
above i (j ∷ ids) [] h = tt
above i (j ∷ ids) (None ∷ kept) h = above i ids kept h.1
above i (j ∷ ids) (Some p ∷ kept) h = (h.0, above i ids kept h.1)

picked_ascend : (ids : List Id) (kept : List (Option NodePlace)) → AreNumbered ids → AreNumbered (picked ids kept)
unfolding IsStrictlySortedBy
picked_ascend [] kept h = tt
picked_ascend (i ∷ ids) [] h = tt
picked_ascend (i ∷ ids) (None ∷ kept) h = picked_ascend ids kept h.1
picked_ascend (i ∷ ids) (Some p ∷ kept) h = (above i ids kept h.0, picked_ascend ids kept h.1)

not_above : (i : Id) (ids : List Id) → AllByRecursion (λ j. id_order i j ≡ Less) ids → Contains ids i → ⊥
not_above i ids h c = cc (All-contains (λ (j : Id). id_order i j ≡ Less) ids i (All-from_recursion (λ (j : Id). id_order i j ≡ Less) ids h) c, equal_self id_order_total i)

at_end : (done : List Id) (i : Id) (ids : List Id) → slice_get (done ++ i ∷ ids) (length done) ≡ Some i
at_end [] i ids = refl
at_end (j ∷ done) i ids = at_end done i ids

-- their ranks are their numbers
picked_numbers : (done ids : List Id) (kept : List (Option NodePlace)) → length kept ≡ length ids → AreNumbered ids → ((j : Id) → Contains ids j → Contains done j → ⊥) → AllZip (IsNumberOf (done ++ picked ids kept)) ids (ranks_from (length done) kept)
unfolding IsStrictlySortedBy
picked_numbers done [] [] long h apart = tt
picked_numbers done [] (o ∷ kept) long h apart = absurd (omega (arith, long))
picked_numbers done (i ∷ ids) [] long h apart = absurd (omega (arith, long))
picked_numbers done (i ∷ ids) (None ∷ kept) long h apart = (
  λ n at. elim (Contains-append_cases done (picked ids kept) i (contains_at (done ++ picked ids kept) n i at)) [
    | inl c ↦ apart i (zero, omega arith, refl) c
    | inr c ↦ not_above i (picked ids kept) (above i ids kept h.0) c
  ],
  picked_numbers done ids kept (omega (arith, long)) h.1 (λ j c. apart j (Contains-append_right (i ∷ []) ids j c)),
)
picked_numbers done (i ∷ ids) (Some p ∷ kept) long h apart =
    let rest = picked_numbers (done ++ i ∷ []) ids kept (omega (arith, long)) h.1 (λ j c among. elim (Contains-push_cases done i j among) [
      | inl w ↦ apart j (Contains-append_right (i ∷ []) ids j c) w
      | inr e ↦ not_above i ids h.0 (subst (Contains ids) (sym e) c)
    ]) in (
      at_end done i (picked ids kept),
      subst (λ (js : List Id). AllZip (IsNumberOf js) ids (ranks_from (length done + 1) kept)) (append_assoc done (i ∷ []) (picked ids kept))
          (subst (λ (n : ℕ). AllZip (IsNumberOf ((done ++ i ∷ []) ++ picked ids kept)) ids (ranks_from n kept)) (length_push done i) rest),
    )

-- and theirs are the ids at the places
picked_ids : (nodes : List Identity) (ids : List Id) (kept : List (Option NodePlace)) (kids : List Identity) → length kept ≡ length ids → AreAt nodes (there_in kept) kids
    → ((n : ℕ) (p : NodePlace) (k : Identity) → slice_get kept n ≡ Some (Some p) → slice_get nodes p.index ≡ Some k → slice_get ids n ≡ Some (id_of k)) → map id_of kids ≡ picked ids kept
picked_ids nodes [] [] [] long at each = refl
picked_ids nodes [] [] (k ∷ kids) long at each = absurd (omega (arith, ap length at))
picked_ids nodes [] (o ∷ kept) kids long at each = absurd (omega (arith, long))
picked_ids nodes (i ∷ ids) [] kids long at each = absurd (omega (arith, long))
picked_ids nodes (i ∷ ids) (None ∷ kept) kids long at each = picked_ids nodes ids kept kids (omega (arith, long)) at (λ n. each (suc n))
picked_ids nodes (i ∷ ids) (Some p ∷ kept) [] long at each = absurd (omega (arith, ap length at))
picked_ids nodes (i ∷ ids) (Some p ∷ kept) (k ∷ kids) long at each =
    let id : i ≡ id_of k = same_Some i (id_of k) (each zero p k refl (ap (λ (os : List (Option Identity)). get_or os 0 None) at)) in
    ap (λ (j : Id). j ∷ map id_of kids) (sym id) ∙ ap (λ (js : List Id). i ∷ js) (picked_ids nodes ids kept kids (omega (arith, long)) (ap (drop 1) at) (λ n. each (suc n)))

-- all of it
pub kept_whole : (d : Lookup) (places : List ℕ) (kept : List (Option NodePlace)) (kids : List Identity) (numbers : List (Option ℕ)) → IsLookup d → AreNodePlaces d places kept → AreRanked d.ids.now.nodes.items kept kids numbers → AreKept d places kids numbers
kept_whole d places kept kids numbers h so ranked =
    let ids = map id_of d.ids.now.table.ids.items in
    let nodes = d.ids.now.nodes.items in
    let long : length kept ≡ length ids = so.long ∙ sym (length-map d.ids.now.table.ids.items id_of) in
    let same = picked_ids nodes ids kept kids long ranked.0 (λ n p k at there. so.numbered n p (id_of k) at (node_here (resolved_view d) nodes p.index k h.ids.nodes there)) in
    let numbered = picked_numbers [] ids kept long d.ids.now.indexed.numbered (λ j c none. absurd (omega (arith, none.1))) in
    record {
      order = there_in kept;
      whole = so.whole;
      krates = ranked.0;
      ascending = sorted_unseen id_order id_of kids (subst AreNumbered (sym same) (picked_ascend ids kept d.ids.now.indexed.numbered));
      numbered = subst (AllZip (IsNumberOf (map id_of kids)) ids) (sym ranked.1) (subst (λ (js : List Id). AllZip (IsNumberOf js) ids (ranks_from 0 kept)) (sym same) numbered);
    }

pub kept_long : (d : Lookup) (places : List ℕ) (kids : List Identity) (numbers : List (Option ℕ)) → AreKept d places kids numbers → length kids ≡ length places
kept_long d places kids numbers kept = kids_long d.ids.now.nodes.items kept.order kids kept.krates ∙ length_permutation places kept.order kept.whole
