-- Where the features of each crate stand among the nodes, and what a search among those of one crate finds.
use Rattle.std.proofs.Common.{◌≡◌, ◌↔◌, ℕ, zero, suc, ◌+◌, ◌-◌, ◌<◌, ◌≤◌, List, [], ◌∷◌, ◌++◌, length, take, drop, get_or, Bool, true, false, Option, Some, slice_get, Less, Equal, Greater, HoldsAt, refl, sym, ap, ◌∙◌, subst, inl, inr, arith}
use Rattle.std.proofs.Math.Dec.{ltb}
use Rattle.std.proofs.lemmas.Bool.{cases_lt, ltb-false}
use Rattle.std.proofs.lemmas.Bool.Decides.{Decides-ltb}
use Rattle.std.proofs.lemmas.List.{get_or-drop, get_or-take, length-drop, length-take-le}
use Rattle.std.proofs.lemmas.List.Sorted.{IsNonDecreasingBy-drop, IsNonDecreasingBy-take}
use Rattle.std.proofs.lemmas.Option.{get_or_from_slice_get, none-some, same_Some, slice_get_within, slice_get-get_or}
use Rattle.std.specs.Cmp.{nat_cmp_is}
use Rattle.std.specs.Cmp.Lexicographic.{slice_cmp}
use Rattle.std.specs.List.{AllByRecursion}
use Rattle.std.specs.List.Sorted.{IsNonDecreasingBy, IsPartitionPoint, IsStrictlySortedBy}
use Rattle.std.specs.Ordering.{nat_cmp, ordering_index, ordering_then}
use Rattle.std.specs.Prelude.{IsTrue}
use Rattle.krates_cm.specs.Document.{Text, text_view}
use Rattle.krates_drawing.specs.Node.{CratesFirst, IsFeature, IsFeatureAt, crate_ids, feature_names}
use Rattle.krates_drawing.specs.declared.node.Node.{Node}
use Rattle.krates_drawing.specs.declared.node.Node.TheVariants.{Krate, Feature}
use Rattle.krates_queries.specs.Kept.{AreNodes, AreStarts, IsStart, StandsBefore, feature_order}
use Rattle.krates_queries.specs.Numbers.{feature_cmp}
use Rattle.krates_queries.proofs.DirectLemmas.{got}
use Rattle.krates_queries.proofs.NodeLemmas.{Rises, equal_feature, feature_equal, features_rise, lowest, none_first, one_feature, rising}
use Rattle.krates_rules.proofs.OrderedIds.{none_equal}

-- ---- the nodes rise by the numbers of their crates

-- crates come first, and then features by the number of their crate
abbrev pub node_rank : {N : Type 0} → Node N → ℕ
node_rank (Krate id krate features mapping) = zero
node_rank (Feature krate_index name) = suc krate_index

no_lower : (x y : ℕ × Text) → feature_order x y ≡ Less → x.0 ≤ y.0
no_lower x y less = elim (cases_lt y.0 x.0) [
  | inl lt ↦ absurd (
      let greater : Greater ≡ nat_cmp x.0 y.0 = nat_cmp_is x.0 y.0 Greater lt in
      let e = ap (λ o. ordering_then o (slice_cmp nat_cmp x.1 y.1)) greater ∙ less in
      cc e)
  | inr ge ↦ ge
]

ranks_later : {N : Type 0} (nodes : List (Node N)) (x : ℕ × Text) → crate_ids nodes ≡ [] → AllByRecursion (λ y. feature_order x y ≡ Less) (feature_names nodes) → AllByRecursion (λ (node : Node N). suc x.0 ≤ node_rank node) nodes
ranks_later [] x none h = tt
ranks_later (Krate i k f m ∷ nodes) x none h = absurd cc
ranks_later (Feature k t ∷ nodes) x none h =
    let le : x.0 ≤ k = no_lower x (k, text_view t) h.0 in
    (omega (arith, le), ranks_later nodes x none h.1)

ranks_rise : {N : Type 0} (nodes : List (Node N)) → CratesFirst nodes → IsStrictlySortedBy feature_order (feature_names nodes) → Rises node_rank nodes
unfolding IsStrictlySortedBy
ranks_rise [] first s = tt
ranks_rise (Krate i k f m ∷ nodes) first s = (lowest nodes node_rank, ranks_rise nodes first s)
ranks_rise (Feature k t ∷ nodes) first s = (ranks_later nodes (k, text_view t) first s.0, ranks_rise nodes (none_first nodes first) s.1)

pub ranked : {N : Type 0} (nodes : List (Node N)) → AreNodes nodes → IsNonDecreasingBy node_rank nodes
ranked nodes a = rising node_rank nodes (ranks_rise nodes a.first a.features.ascending)

-- ---- where the features of a crate begin

before_told : (k n : ℕ) (r b : Bool) → ltb (suc k) (suc n) ≡ b → (IsTrue r ↔ (k < n)) → r ≡ b
before_told k n true true e h = refl
before_told k n true false e h = absurd (let lt : k < n = h.0 refl in let ge = ltb-false (suc k) (suc n) e in omega (arith, lt, ge))
before_told k n false true e h = absurd (let lt = (Decides-ltb (suc k) (suc n)).0 e in let is : IsTrue false = h.1 (omega (arith, lt)) in cc is)
before_told k n false false e h = refl

crate_told : (n : ℕ) (r b : Bool) → ltb zero (suc n) ≡ b → IsTrue r → r ≡ b
crate_told n true true e h = refl
crate_told n true false e h = absurd (let ge = ltb-false zero (suc n) e in omega (arith, ge))
crate_told n false b e h = absurd (cc h)

-- the test of a node, by its rank
pub told_by_rank : {N : Type 0} (node : Node N) (n : ℕ) (r : Bool) → (IsTrue r ↔ StandsBefore n node) → r ≡ ltb (node_rank node) (suc n)
told_by_rank (Krate i k f m) n r h = crate_told n r (ltb zero (suc n)) refl (h.1 tt)
told_by_rank (Feature k t) n r h = before_told k n r (ltb (suc k) (suc n)) refl h

stands_by_rank : {N : Type 0} (node : Node N) (n : ℕ) → (node_rank node < suc n) ↔ StandsBefore n node
stands_by_rank (Krate i k f m) n = (λ lt. tt, λ h. omega arith)
stands_by_rank (Feature k t) n = (λ lt. omega (arith, lt), λ h. omega (arith, h))

abbrev pub IsRankedAt : {N : Type 0} → List (Node N) → ℕ → ℕ → Type 0
IsRankedAt {N} nodes n at = IsPartitionPoint (λ (node : Node N). ltb (node_rank node) (suc n) ≡ true) (λ (node : Node N). ltb (node_rank node) (suc n) ≡ false) nodes at

-- the place where the ranks reach a number is where the features of the crate begin
pub start_at : {N : Type 0} (nodes : List (Node N)) (n at : ℕ) → at ≤ length nodes → IsRankedAt nodes n at → IsStart nodes n at
start_at nodes n at within parted = record {
  within = within;
  exactly = λ k node got. (
    λ lt.
        (let low = parted.0 k node (omega arith) lt in
        let is = get_or_from_slice_get nodes k node node got in
        (stands_by_rank node n).0 ((Decides-ltb (node_rank node) (suc n)).0 (ap (λ x. ltb (node_rank x) (suc n)) (sym is) ∙ low))),
    λ h. elim (cases_lt k at) [
      | inl lt ↦ lt
      | inr ge ↦ absurd (
          let high = parted.1 k node ge (slice_get_within nodes k node got) in
          let is = get_or_from_slice_get nodes k node node got in
          let low : node_rank node < suc n = (stands_by_rank node n).1 h in
          let not = ltb-false (node_rank node) (suc n) (ap (λ x. ltb (node_rank x) (suc n)) (sym is) ∙ high) in
          omega (arith, low, not))
    ],
  );
}

pub no_start : {N : Type 0} (nodes : List (Node N)) (starts : List ℕ) → starts ≡ [] → (p n : ℕ) → slice_get starts p ≡ Some n → IsStart nodes p n
no_start nodes [] none p n e = absurd cc
no_start nodes (s ∷ starts) none p n e = absurd cc

-- one start more
start_of_more : {N : Type 0} (nodes : List (Node N)) (starts : List ℕ) (at p n i : ℕ) → ((q m : ℕ) → slice_get starts q ≡ Some m → IsStart nodes (i + q) m) → IsStart nodes (i + length starts) at
    → slice_get (starts ++ at ∷ []) p ≡ Some n → IsStart nodes (i + p) n
start_of_more nodes [] at zero n i each more e = subst (λ m. IsStart nodes (i + zero) m) (same_Some at n e) more
start_of_more nodes [] at (suc p) n i each more e = absurd cc
start_of_more nodes (s ∷ starts) at zero n i each more e = each zero n e
start_of_more nodes (s ∷ starts) at (suc p) n i each more e =
    let step : (q : ℕ) → suc i + q ≡ i + suc q = λ q. omega arith in
    subst (λ k. IsStart nodes k n) (step p)
    (start_of_more nodes starts at p n (suc i) (λ q m at. subst (λ k. IsStart nodes k m) (sym (step q)) (each (suc q) m at)) (subst (λ k. IsStart nodes k at) (sym (step (length starts))) more) e)

pub one_start_more : {N : Type 0} (nodes : List (Node N)) (starts : List ℕ) (at number : ℕ) → length starts ≡ number → ((q m : ℕ) → slice_get starts q ≡ Some m → IsStart nodes q m) → IsStart nodes number at
    → (p n : ℕ) → slice_get (starts ++ at ∷ []) p ≡ Some n → IsStart nodes p n
one_start_more nodes starts at number counted each more p n e =
    let same : (q : ℕ) → zero + q ≡ q = λ q. omega arith in
    let here : number ≡ zero + length starts = omega (arith, counted) in
    subst (λ k. IsStart nodes k n) (same p)
    (start_of_more nodes starts at p n zero (λ q m at. subst (λ k. IsStart nodes k m) (sym (same q)) (each q m at)) (subst (λ k. IsStart nodes k at) here more) e)

-- ---- a crate's own stretch

-- what stands before the features of a crate stands before those of the next
before_next : {N : Type 0} (node : Node N) (p : ℕ) → StandsBefore p node → StandsBefore (p + 1) node
before_next (Krate i k f m) p h = tt
before_next (Feature k t) p h = omega (arith, h)

pub starts_rise : {N : Type 0} (nodes : List (Node N)) (p start end : ℕ) → IsStart nodes p start → IsStart nodes (p + 1) end → start ≤ end
starts_rise nodes p start end a b = elim (cases_lt end start) [
  | inl lt ↦ absurd (
      let w = got nodes end (omega (arith, lt, a.within)) in
      let later = (b.exactly end w.0 w.1).1 (before_next w.0 p ((a.exactly end w.0 w.1).0 lt)) in
      omega (arith, later))
  | inr ge ↦ ge
]

own_not_before : {N : Type 0} (node : Node N) (p : ℕ) (name : Text) → IsFeature p name node → StandsBefore p node → ⊥
own_not_before (Krate i k f m) p name is h = is
own_not_before (Feature k t) p name is h = omega (arith, is.0, h)

own_before_next : {N : Type 0} (node : Node N) (p : ℕ) (name : Text) → IsFeature p name node → StandsBefore (p + 1) node
own_before_next (Krate i k f m) p name is = absurd is
own_before_next (Feature k t) p name is = omega (arith, is.0)

-- each feature of a crate stands in it
in_stretch : {N : Type 0} (nodes : List (Node N)) (p start end n : ℕ) (name : Text) → IsStart nodes p start → IsStart nodes (p + 1) end → IsFeatureAt nodes n p name → (start ≤ n) × (n < end)
in_stretch nodes p start end n name a b h = (
  elim (cases_lt n start) [
    | inl lt ↦ absurd (own_not_before h.node p name h.is ((a.exactly n h.node h.at).0 lt))
    | inr ge ↦ ge
  ],
  (b.exactly n h.node h.at).1 (own_before_next h.node p name h.is),
)

-- the nodes of a stretch
abbrev pub stretch : {N : Type 0} → List (Node N) → ℕ → ℕ → List (Node N)
stretch nodes start end = take (end - start) (drop start nodes)

stretch_length : {N : Type 0} (nodes : List (Node N)) (start end : ℕ) → start ≤ end → end ≤ length nodes → length (stretch nodes start end) ≡ end - start
stretch_length nodes start end rise within =
    let left = length-drop start nodes in
    length-take-le (end - start) (drop start nodes) (omega (arith, left, rise, within))

stretch_at : {N : Type 0} (nodes : List (Node N)) (start end i : ℕ) (d : Node N) → i < end - start → get_or (stretch nodes start end) i d ≡ get_or nodes (start + i) d
stretch_at nodes start end i d lt = get_or-take (end - start) (drop start nodes) i d lt ∙ get_or-drop start nodes i d

-- the place that the search in it found
pub found_in_stretch : {N : Type 0} (nodes own : List (Node N)) (p start end place : ℕ) (name : Text) → AreNodes nodes → IsStart nodes p start → IsStart nodes (p + 1) end → own ≡ stretch nodes start end → place < length own
    → HoldsAt (λ (node : Node N). feature_cmp node p name ≡ Equal) own place → (n : ℕ) → (start + place ≡ n) ↔ IsFeatureAt nodes n p name
found_in_stretch {N} nodes own p start end place name a s e is lt at n =
    let rise = starts_rise nodes p start end s e in
    let count = stretch_length nodes start end rise e.within in
    let short : place < end - start = subst (λ k. place < k) (ap (λ (xs : List (Node N)). length xs) is ∙ count) lt in
    let w = got nodes (start + place) (omega (arith, short, rise, e.within)) in
    let same : get_or own place w.0 ≡ w.0 =
    ap (λ (xs : List (Node N)). get_or xs place w.0) is ∙ stretch_at nodes start end place w.0 short ∙ get_or_from_slice_get nodes (start + place) w.0 w.0 w.1 in
    let there : IsFeatureAt nodes (start + place) p name = record { node = w.0; at = w.1; is = feature_equal w.0 p name (ap (λ (x : Node N). feature_cmp x p name) (sym same) ∙ at w.0) } in (
      λ e. subst (λ m. IsFeatureAt nodes m p name) e there,
      λ h. one_feature nodes (start + place) n p name a.features.ascending there h,
    )

-- the search in it found none
pub none_in_stretch : {N : Type 0} (nodes own : List (Node N)) (p start end place : ℕ) (name : Text) → AreNodes nodes → IsStart nodes p start → IsStart nodes (p + 1) end → own ≡ stretch nodes start end
    → (IsNonDecreasingBy (λ (node : Node N). ordering_index (feature_cmp node p name)) own → IsPartitionPoint (λ (node : Node N). feature_cmp node p name ≡ Less) (λ (node : Node N). feature_cmp node p name ≡ Greater) own place)
    → (n : ℕ) → IsFeatureAt nodes n p name → ⊥
none_in_stretch {N} nodes own p start end place name a s e is parts n h =
    let rise = starts_rise nodes p start end s e in
    let count = stretch_length nodes start end rise e.within in
    let inside = in_stretch nodes p start end n name s e h in
    let i : ℕ = n - start in
    let back : start + i ≡ n = omega (arith, inside.0) in
    let short : i < end - start = omega (arith, inside.0, inside.1) in
    let lt : i < length own = subst (λ k. i < k) (sym (ap (λ (xs : List (Node N)). length xs) is ∙ count)) short in
    let rank : Node N → ℕ = λ node. ordering_index (feature_cmp node p name) in
    let rises = rising rank nodes (features_rise nodes p name a.first a.features.ascending) in
    let own_rises : IsNonDecreasingBy rank own =
    subst (IsNonDecreasingBy rank) (sym is) (IsNonDecreasingBy-take rank (end - start) (drop start nodes) (IsNonDecreasingBy-drop rank start nodes rises)) in
    let node : get_or own i h.node ≡ h.node =
    ap (λ (xs : List (Node N)). get_or xs i h.node) is ∙ stretch_at nodes start end i h.node short ∙ ap (λ k. get_or nodes k h.node) back ∙ get_or_from_slice_get nodes n h.node h.node h.at in
    none_equal (λ (x : Node N). feature_cmp x p name) own place (parts own_rises) i h.node lt (ap (λ (x : Node N). feature_cmp x p name) node ∙ equal_feature h.node p name h.is)
