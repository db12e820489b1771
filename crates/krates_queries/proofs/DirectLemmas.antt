-- Crates joined by edges: which edges a node has, which one is the least to each crate, and that exactly those are found.
use Rattle.std.proofs.Common.{◌≡◌, ℕ, zero, suc, ◌+◌, ◌<◌, List, [], ◌∷◌, length, Option, Some, option_map, slice_get, Contains, refl, ap, ◌∙◌, subst, inl, inr, arith, ◌⊎◌, ◌≤◌, ◌==◌, Bool, true, false, cond, get_or, None, Ordering, Less, Equal, sym, ◌↔◌, ◌&&◌, map, filter, is_some}
use Rattle.std.proofs.lemmas.Bool.Decides.{Decides-eqb, Decides-ltb}
use Rattle.std.proofs.lemmas.List.Elements.{All-from_recursion}
use Rattle.std.proofs.lemmas.Option.{get_or_from_slice_get, slice_get_within, same_Some, none-some, slice_get-map, slice_get-get_or}
use Rattle.std.specs.List.{AllByRecursion, cons_option, enumerate_from, filter_map, find}
use Rattle.krates_graph.specs.declared.graph.edge.Direction.{Direction}
use Rattle.krates_graph.specs.declared.graph.edge.GraphEdge.{GraphEdge}
use Rattle.krates_graph.specs.Graph.{edges_at, end_of, is_at, numbers_at}
use Rattle.krates_queries.specs.Direct.{AreInOrder, first_edge, neighbour_cmp, value_at, value_in, Joined, IsLeastEdge, AreJoined, is_feature_in, is_feature_of, joined_by, joined_all, AreConnected, AreDependencies, home, home_in, numbers_in, named_by, target_in, targets_from, AreDependents, IsDependent, source_in, sources_into, sources_over, sources_to}
use Rattle.krates_drawing.specs.declared.node.Node.{Node}
use Rattle.krates_rules.proofs.Members.{Member, mapped_of, member_map, kept_of, member_filter, contains_of, member_of, member_append, member_left, member_right, spread_of, member_spread}
use Rattle.std.proofs.Math.Dec.{ltb}
use Rattle.std.proofs.lemmas.Bool.{cases_lt, eqb-false, ltb-false, ne_eqb}
use Rattle.std.proofs.lemmas.Cmp.{nat_cmp_total, on_total, then_total}
use Rattle.std.proofs.lemmas.List.MinMax.{ranks_by}
use Rattle.std.proofs.lemmas.List.Sorted.{sorted_far}
use Rattle.std.specs.Cmp.{IsTotalOrder, nat_cmp_is}
use Rattle.std.specs.List.Sorted.{IsNonDecreasingBy, IsPartitionPoint, IsStrictlySortedBy}
use Rattle.std.specs.Ordering.{is_lt, nat_cmp, ordering_then}
use Rattle.krates_queries.specs.declared.queries.direct.Neighbour.{Neighbour}
use Rattle.std.proofs.lemmas.List.Kept.{IsStrictlySortedBy-filter}
use Rattle.krates_cm.specs.Document.{Text, text_view}
use Rattle.krates_drawing.specs.Agreement.{DependsOn, IsOf}
use Rattle.krates_drawing.specs.Drawing.{PlannedCrate, PlannedFeature}
use Rattle.krates_drawing.specs.Stored.{LeadsAlong}
use Rattle.krates_rules.specs.Facts.{Id}
use Rattle.krates_rules.specs.Resolved.{id_of}
use Rattle.krates_graph.specs.declared.graph.edge.Direction.TheVariants.{Outgoing, Incoming}
use Rattle.krates_queries.specs.Drawn.{planned_node}
use Rattle.krates_drawing.specs.declared.node.Node.TheVariants.{Krate, Feature}

-- ---- which they are

-- the edge with this number
pub record EdgeAt {E : Type 0} (edges : List (GraphEdge E)) (node : ℕ) (d : Direction) (k : ℕ) : Type 0 where
  pub edge : GraphEdge E
  pub at : slice_get edges k ≡ Some edge
  pub end : end_of d edge ≡ node

record Numbered {A : Type 0} (n : ℕ) (xs : List A) (k : ℕ) (x : A) : Type 0 where
  place : ℕ
  is : k ≡ n + place
  at : slice_get xs place ≡ Some x

numbered_of : {A : Type 0} (n : ℕ) (xs : List A) (p : ℕ × A) → Member (enumerate_from n xs) p → Numbered n xs p.0 p.1
numbered_of n [] p m = absurd m
numbered_of {A} n (x ∷ xs) p (inl e) = record { place = zero; is = let f : n ≡ p.0 = ap (λ (q : ℕ × A). q.0) e in omega (arith, f); at = ap (λ (q : ℕ × A). Some q.1) e }
numbered_of n (x ∷ xs) p (inr m) = let w = numbered_of (n + 1) xs p m in record { place = suc w.place; is = omega (arith, w.is); at = w.at }

number_member : {A : Type 0} (n : ℕ) (xs : List A) (k : ℕ) (x : A) → slice_get xs k ≡ Some x → Member (enumerate_from n xs) (n + k, x)
number_member n [] k x e = absurd (none-some x e)
number_member n (y ∷ ys) zero x e = inl (let f : n ≡ n + 0 = omega arith in ap (λ k. (k, y)) f ∙ ap (λ z. (n + 0, z)) (same_Some y x e))
number_member n (y ∷ ys) (suc k) x e = inr (let f : (n + 1) + k ≡ n + suc k = omega arith in subst (λ j. Member (enumerate_from (n + 1) ys) (j, x)) f (number_member (n + 1) ys k x e))

pub edge_at : {E : Type 0} (edges : List (GraphEdge E)) (node : ℕ) (d : Direction) (k : ℕ) → Member (numbers_at edges node d) k → EdgeAt edges node d k
edge_at {E} edges node d k m =
    let w = mapped_of (λ (p : ℕ × GraphEdge E). p.0) (edges_at edges node d) k m in
    let h = kept_of (is_at node d) (enumerate_from 0 edges) w.from w.member in
    let at = numbered_of 0 edges w.from h.0 in
    let same : at.place ≡ k = omega (arith, at.is, w.is) in
    record { edge = w.from.1; at = subst (λ j. slice_get edges j ≡ Some w.from.1) same at.at; end = (Decides-eqb (end_of d w.from.1) node).0 h.1 }

pub at_edge : {E : Type 0} (edges : List (GraphEdge E)) (node : ℕ) (d : Direction) (k : ℕ) → EdgeAt edges node d k → Member (numbers_at edges node d) k
at_edge {E} edges node d k w =
    let there = number_member 0 edges k w.edge w.at in
    let f : 0 + k ≡ k = omega arith in
    subst (Member (numbers_at edges node d)) f
    (member_map (λ (p : ℕ × GraphEdge E). p.0) (edges_at edges node d) (0 + k, w.edge)
    (member_filter (is_at node d) (enumerate_from 0 edges) (0 + k, w.edge) ((Decides-eqb (end_of d w.edge) node).1 w.end) there))

-- ---- elements at their places

-- a place within a list has an element
pub got : {A : Type 0} (xs : List A) (k : ℕ) → k < length xs → (x : A) × (slice_get xs k ≡ Some x)
got [] k lt = absurd (omega arith)
got (x ∷ xs) zero lt = (x, refl)
got (x ∷ xs) (suc k) lt = got xs k (omega arith)

pub contains_got : {A : Type 0} (xs : List A) (k : ℕ) (x : A) → slice_get xs k ≡ Some x → Contains xs x
contains_got xs k x e = (k, slice_get_within xs k x e, get_or_from_slice_get xs k x x e)

-- ==== neighbours in order: the first one of a crate is found by binary search, and has its least edge

-- ---- their order

neighbours_total : IsTotalOrder neighbour_cmp
neighbours_total = then_total (on_total (λ (n : Neighbour). n.krate) nat_cmp_total) (on_total (λ (n : Neighbour). n.edge) nat_cmp_total)

at_least : (a b : ℕ) (r : Ordering) → is_lt (ordering_then (nat_cmp a b) r) ≡ false → b ≤ a
at_least a b r h = elim (cases_lt a b) [
  | inl lt ↦ absurd (let e = ap (λ o. is_lt (ordering_then o r)) (nat_cmp_is a b Less lt) ∙ h in cc e)
  | inr ge ↦ ge
]

-- a later neighbour has no lower crate
pub crates_rise : (xs : List Neighbour) → AreInOrder xs → IsNonDecreasingBy (λ x. x.krate) xs
crates_rise xs sorted i j d le lt =
    let x = get_or xs i d in
    let y = get_or xs j d in
    at_least y.krate x.krate (nat_cmp y.edge x.edge) (sorted_far _ (ranks_by neighbours_total (λ z. z)) xs sorted i j d le lt)

-- and, for the same crate, no lower edge
edges_rise : (xs : List Neighbour) → AreInOrder xs → (i j : ℕ) (d : Neighbour) → i ≤ j → j < length xs → (get_or xs i d).krate ≡ (get_or xs j d).krate → (get_or xs i d).edge ≤ (get_or xs j d).edge
edges_rise xs sorted i j d le lt same =
    let x = get_or xs i d in
    let y = get_or xs j d in
    let tied : Equal ≡ nat_cmp y.krate x.krate = nat_cmp_is y.krate x.krate Equal (sym same) in
    elim (cases_lt y.edge x.edge) [
      | inl below ↦ absurd (
          let less : Less ≡ nat_cmp y.edge x.edge = nat_cmp_is y.edge x.edge Less below in
          let e = ap (λ o. is_lt (ordering_then o (nat_cmp y.edge x.edge))) tied in
          let f = sorted_far _ (ranks_by neighbours_total (λ z. z)) xs sorted i j d le lt in
          cc (e, f, less))
      | inr ge ↦ ge
    ]

-- ---- the first neighbour of a crate

found : (p : Neighbour → Bool) (xs : List Neighbour) (k : ℕ) (x : Neighbour) → slice_get xs k ≡ Some x → ((i : ℕ) (d : Neighbour) → i < k → p (get_or xs i d) ≡ false) → p x ≡ true → find p xs ≡ Some x
found p [] k x at before e = absurd (none-some x at)
found p (y ∷ ys) zero x at before e = ap (λ z. cond (p z) (Some z) (find p ys)) (same_Some y x at) ∙ ap (λ b. cond b (Some x) (find p ys)) e
found p (y ∷ ys) (suc k) x at before e = ap (λ b. cond b (Some y) (find p ys)) (before zero y (omega arith)) ∙ found p ys k x at (λ i d lt. before (suc i) d (omega (arith, lt))) e

missing : (p : Neighbour → Bool) (xs : List Neighbour) → ((i : ℕ) (d : Neighbour) → i < length xs → p (get_or xs i d) ≡ false) → find p xs ≡ None
missing p [] h = refl
missing p (y ∷ ys) h = ap (λ b. cond b (Some y) (find p ys)) (h zero y (omega arith)) ∙ missing p ys (λ i d lt. h (suc i) d (omega (arith, lt)))

-- the crates below a number, and the others
abbrev pub IsBelow : List Neighbour → ℕ → ℕ → Type 0
IsBelow xs n k = IsPartitionPoint (λ (y : Neighbour). ltb y.krate n ≡ true) (λ (y : Neighbour). ltb y.krate n ≡ false) xs k

-- a neighbour below the number is another crate
below_other : (xs : List Neighbour) (n k i : ℕ) (d : Neighbour) → IsBelow xs n k → i < k → i < length xs → ((get_or xs i d).krate == n) ≡ false
below_other xs n k i d parted lt within =
    let below = (Decides-ltb (get_or xs i d).krate n).0 (parted.0 i d (omega arith) lt) in
    ne_eqb (get_or xs i d).krate n (λ e. omega (arith, below, e))

-- the first neighbour of the crate, if it has any, comes right after those below
pub found_at : (xs : List Neighbour) (n k : ℕ) (x : Neighbour) → IsBelow xs n k → slice_get xs k ≡ Some x → x.krate ≡ n → Some x.edge ≡ first_edge xs n
found_at xs n k x parted at same =
    let lt = slice_get_within xs k x at in
    sym (ap (option_map (λ (y : Neighbour). y.edge)) (found (λ y. y.krate == n) xs k x at (λ i d l. below_other xs n k i d parted l (omega (arith, l, lt))) ((Decides-eqb x.krate n).1 same)))

pub none_at_end : (xs : List Neighbour) (n k : ℕ) → IsBelow xs n k → length xs ≤ k → None ≡ first_edge xs n
none_at_end xs n k parted le =
    sym (ap (option_map (λ (y : Neighbour). y.edge)) (missing (λ y. y.krate == n) xs (λ i d lt. below_other xs n k i d parted (omega (arith, lt, le)) lt)))

pub none_there : (xs : List Neighbour) (n k : ℕ) (x : Neighbour) → AreInOrder xs → IsBelow xs n k → slice_get xs k ≡ Some x → (x.krate ≡ n → ⊥) → None ≡ first_edge xs n
none_there xs n k x sorted parted at other =
    let within = slice_get_within xs k x at in
    let least = ltb-false x.krate n (ap (λ (y : Neighbour). ltb y.krate n) (sym (get_or_from_slice_get xs k x x at)) ∙ parted.1 k x (omega arith) within) in
    sym (ap (option_map (λ (y : Neighbour). y.edge)) (missing (λ y. y.krate == n) xs (λ i d lt. elim (cases_lt i k) [
      | inl below ↦ below_other xs n k i d parted below lt
      | inr behind ↦
          (let rise : (get_or xs k d).krate ≤ (get_or xs i d).krate = crates_rise xs sorted k i d behind lt in
          let here : (get_or xs k d).krate ≡ x.krate = ap (λ (y : Neighbour). y.krate) (get_or_from_slice_get xs k x d at) in
          ne_eqb (get_or xs i d).krate n (λ e. other (omega (arith, e, rise, here, least))))
    ])))

-- ---- which crate the edge belongs to

is_step : (x : Neighbour) (xs : List Neighbour) (n k : ℕ) (b : Bool) → (x.krate == n) ≡ b → option_map (λ (y : Neighbour). y.edge) (cond b (Some x) (find (λ y. y.krate == n) xs)) ≡ Some k
    → (first_edge xs n ≡ Some k → Member xs (record { krate = n; edge = k })) → Member (x ∷ xs) (record { krate = n; edge = k })
is_step x xs n k true e h more =
    let krate = (Decides-eqb x.krate n).0 e in
    let edge = same_Some x.edge k h in
    inl (ap (λ m. record { krate = m; edge = x.edge }) krate ∙ ap (λ m. record { krate = n; edge = m }) edge)
is_step x xs n k false e h more = inr (more h)

-- it is an edge of the crate
pub first_is : (xs : List Neighbour) (n k : ℕ) → first_edge xs n ≡ Some k → Member xs (record { krate = n; edge = k })
first_is [] n k h = absurd (none-some k h)
first_is (x ∷ xs) n k h = is_step x xs n k (x.krate == n) refl h (first_is xs n k)

there_step : (x : Neighbour) (xs : List Neighbour) (n j : ℕ) (b : Bool) → (x.krate == n) ≡ b → (x ≡ record { krate = n; edge = j }) ⊎ ((k : ℕ) × (first_edge xs n ≡ Some k))
    → (k : ℕ) × (option_map (λ (y : Neighbour). y.edge) (cond b (Some x) (find (λ y. y.krate == n) xs)) ≡ Some k)
there_step x xs n j true e m = (x.edge, refl)
there_step x xs n j false e (inl same) = absurd (eqb-false x.krate n e (ap (λ (y : Neighbour). y.krate) same))
there_step x xs n j false e (inr w) = w

-- a crate with an edge has a first one
pub first_there : (xs : List Neighbour) (n j : ℕ) → Member xs (record { krate = n; edge = j }) → (k : ℕ) × (first_edge xs n ≡ Some k)
first_there [] n j m = absurd m
first_there (x ∷ xs) n j (inl same) = there_step x xs n j (x.krate == n) refl (inl same)
first_there (x ∷ xs) n j (inr m) = there_step x xs n j (x.krate == n) refl (inr (first_there xs n j m))

order_of_rest : (x : Neighbour) (xs : List Neighbour) → AreInOrder (x ∷ xs) → AreInOrder xs
order_of_rest x xs sorted k d low lt =
    let e : suc k + 1 ≡ suc (k + 1) = omega arith in
    subst (λ m. is_lt (neighbour_cmp (get_or (x ∷ xs) m d) (get_or (x ∷ xs) (suc k) d)) ≡ false) e (sorted (suc k) d (omega arith) (omega (arith, lt)))

least_step : (x : Neighbour) (xs : List Neighbour) (n k j : ℕ) (b : Bool) → (x.krate == n) ≡ b → AreInOrder (x ∷ xs) → option_map (λ (y : Neighbour). y.edge) (cond b (Some x) (find (λ y. y.krate == n) xs)) ≡ Some k
    → (x ≡ record { krate = n; edge = j }) ⊎ Member xs (record { krate = n; edge = j }) → (first_edge xs n ≡ Some k → Member xs (record { krate = n; edge = j }) → k ≤ j) → k ≤ j
least_step x xs n k j true e sorted h (inl same) more =
    let here : x.edge ≡ k = same_Some x.edge k h in
    let there : x.edge ≡ j = ap (λ (y : Neighbour). y.edge) same in
    omega (arith, here, there)
least_step x xs n k j true e sorted h (inr m) more =
    let later = contains_of xs (record { krate = n; edge = j }) m in
    let y : Neighbour = record { krate = n; edge = j } in
    let here : x.edge ≡ k = same_Some x.edge k h in
    let rise = edges_rise (x ∷ xs) sorted zero (suc later.0) y (omega arith) (omega (arith, later.1)) ((Decides-eqb x.krate n).0 e ∙ sym (ap (λ (z : Neighbour). z.krate) later.2)) in
    let there : (get_or xs later.0 y).edge ≡ j = ap (λ (z : Neighbour). z.edge) later.2 in
    omega (arith, here, rise, there)
least_step x xs n k j false e sorted h (inl same) more = absurd (eqb-false x.krate n e (ap (λ (y : Neighbour). y.krate) same))
least_step x xs n k j false e sorted h (inr m) more = more h m

-- and none of its edges is lower
pub first_least : (xs : List Neighbour) (n k j : ℕ) → AreInOrder xs → first_edge xs n ≡ Some k → Member xs (record { krate = n; edge = j }) → k ≤ j
first_least [] n k j sorted h m = absurd m
first_least (x ∷ xs) n k j sorted h m = least_step x xs n k j (x.krate == n) refl sorted h m (first_least xs n k j (order_of_rest x xs sorted))

-- ==== joined crates: which edges join them, and that exactly those are found

-- ---- where an edge leads

planned_feature : {N : Type 0} (o : Option (Node N)) (d : ℕ) → is_feature_in d o ≡ true → (name : Text) × (option_map planned_node o ≡ Some (PlannedFeature d name))
planned_feature None d h = absurd cc
planned_feature (Some (Krate id krate features mapping)) d h = absurd cc
planned_feature (Some (Feature krate_index name)) d h = (text_view name, ap (λ k. Some (PlannedFeature k (text_view name))) ((Decides-eqb krate_index d).0 h))

feature_planned : {N : Type 0} (o : Option (Node N)) (d : ℕ) (name : Text) → option_map planned_node o ≡ Some (PlannedFeature d name) → is_feature_in d o ≡ true
feature_planned None d name h = absurd cc
feature_planned (Some (Krate id krate features mapping)) d name h = absurd cc
feature_planned (Some (Feature krate_index f)) d name h = (Decides-eqb krate_index d).1 cc

-- the node is a feature of `d`
pub of_feature : {N : Type 0} (nodes : List (Node N)) (d n : ℕ) → is_feature_of nodes d n ≡ true → (name : Text) × (slice_get (map planned_node nodes) n ≡ Some (PlannedFeature d name))
of_feature nodes d n h = let w = planned_feature (slice_get nodes n) d h in (w.0, slice_get-map planned_node nodes n ∙ w.1)

pub feature_of : {N : Type 0} (nodes : List (Node N)) (d n : ℕ) (name : Text) → slice_get (map planned_node nodes) n ≡ Some (PlannedFeature d name) → is_feature_of nodes d n ≡ true
feature_of nodes d n name h = feature_planned (slice_get nodes n) d name (sym (slice_get-map planned_node nodes n) ∙ h)

home_step : {N : Type 0} (o : Option (Node N)) (t d : ℕ) → home_in t o ≡ d → (t ≡ d) ⊎ (is_feature_in d o ≡ true)
home_step None t d h = inl h
home_step (Some (Krate id krate features mapping)) t d h = inl h
home_step (Some (Feature krate_index name)) t d h = inr ((Decides-eqb krate_index d).1 h)

-- a node whose home is `d` is `d` or a feature of it
of_home : {N : Type 0} (nodes : List (Node N)) (d t : ℕ) → home nodes t ≡ d → IsOf (map planned_node nodes) d t
of_home nodes d t h = elim (home_step (slice_get nodes t) t d h) [
  | inl same ↦ inl same
  | inr feature ↦ inr (of_feature nodes d t feature)
]

home_own : {N : Type 0} (o : Option (Node N)) (d : ℕ) (x : N) → value_in o ≡ Some x → home_in d o ≡ d
home_own None d x v = refl
home_own (Some (Krate id krate features mapping)) d x v = refl
home_own (Some (Feature krate_index name)) d x v = absurd cc

home_feature : {N : Type 0} (o : Option (Node N)) (t d : ℕ) → is_feature_in d o ≡ true → home_in t o ≡ d
home_feature None t d h = absurd cc
home_feature (Some (Krate id krate features mapping)) t d h = absurd cc
home_feature (Some (Feature krate_index name)) t d h = (Decides-eqb krate_index d).0 h

-- and the home of a crate and of its features is the crate
home_of : {N : Type 0} (nodes : List (Node N)) (d t : ℕ) (x : N) → value_at nodes d ≡ Some x → IsOf (map planned_node nodes) d t → home nodes t ≡ d
home_of nodes d t x v (inl same) = ap (home nodes) same ∙ home_own (slice_get nodes d) d x v
home_of nodes d t x v (inr w) = home_feature (slice_get nodes t) t d (feature_of nodes d t w.0 w.1)

-- ---- the least edge

-- the edge with this number leads from `p` to `d` or to a feature of `d`
pub record Leads {N E : Type 0} (nodes : List (Node N)) (edges : List (GraphEdge E)) (p d k : ℕ) : Type 0 where
  pub edge : GraphEdge E
  pub at : slice_get edges k ≡ Some edge
  pub from : edge.source ≡ p
  pub to : IsOf (map planned_node nodes) d edge.target

-- an edge that leads from `p` to `d` or to a feature of `d` has a number
leading : {N E : Type 0} (nodes : List (Node N)) (edges : List (GraphEdge E)) (p d : ℕ) → LeadsAlong (map planned_node nodes) edges p d → (k : ℕ) × Leads nodes edges p d k
leading nodes edges p d w =
    (w.among.0, record { edge = w.edge; at = slice_get-get_or edges w.among.0 w.edge w.among.1 ∙ ap (λ e. Some e) w.among.2; from = w.from; to = w.to })

pub least_leads : {N E : Type 0} (nodes : List (Node N)) (edges : List (GraphEdge E)) (p d k : ℕ) → IsLeastEdge nodes edges p d k → LeadsAlong (map planned_node nodes) edges p d
least_leads nodes edges p d k w = record { edge = w.edge; among = contains_got edges k w.edge w.at; from = w.from; to = w.to }

-- the neighbours are in order, and are exactly the crates that edges join so
pub record AreNeighbours {N : Type 0} (nodes : List (Node N)) (IsJoinedBy : ℕ → ℕ → Type 0) (xs : List Neighbour) : Type 0 where
  pub order : AreInOrder xs
  pub sound : (n k : ℕ) → Member xs (record { krate = n; edge = k }) → IsJoinedBy n k
  pub whole : (n k : ℕ) (x : N) → value_at nodes n ≡ Some x → IsJoinedBy n k → Member xs (record { krate = n; edge = k })

is_least : {N E : Type 0} (nodes : List (Node N)) (edges : List (GraphEdge E)) (p d k : ℕ) → Leads nodes edges p d k → ((j : ℕ) → Leads nodes edges p d j → k ≤ j) → IsLeastEdge nodes edges p d k
is_least nodes edges p d k w least =
    record { edge = w.edge; at = w.at; from = w.from; to = w.to; least = λ j e at from to. least j (record { edge = e; at = at; from = from; to = to }) }

least_to : {N E : Type 0} (nodes : List (Node N)) (edges : List (GraphEdge E)) (p : ℕ) (xs : List Neighbour) → AreNeighbours nodes (λ n k. Leads nodes edges p n k) xs
    → (n k : ℕ) (x : N) → value_at nodes n ≡ Some x → first_edge xs n ≡ Some k → IsLeastEdge nodes edges p n k
least_to nodes edges p xs w n k x v h = is_least nodes edges p n k (w.sound n k (first_is xs n k h)) (λ j l. first_least xs n k j w.order h (w.whole n j x v l))

least_from : {N E : Type 0} (nodes : List (Node N)) (edges : List (GraphEdge E)) (d : ℕ) (xs : List Neighbour) → AreNeighbours nodes (λ n k. Leads nodes edges n d k) xs
    → (n k : ℕ) (x : N) → value_at nodes n ≡ Some x → first_edge xs n ≡ Some k → IsLeastEdge nodes edges n d k
least_from nodes edges d xs w n k x v h = is_least nodes edges n d k (w.sound n k (first_is xs n k h)) (λ j l. first_least xs n k j w.order h (w.whole n j x v l))

-- ---- exactly those are found

record IsJoined {N : Type 0} (value : ℕ → Option N) (edge : ℕ → Option ℕ) (j : Joined N) : Type 0 where
  krate : value j.node ≡ Some j.krate
  edge_is : edge j.node ≡ Some j.edge

abbrev both_some : {N : Type 0} → Option N → Option ℕ → Bool
both_some v e = is_some v && is_some e

each_step : {N : Type 0} (value : ℕ → Option N) (edge : ℕ → Option ℕ) (n : ℕ) (v : Option N) (e : Option ℕ) (more : List (Joined N)) → value n ≡ v → edge n ≡ e → AllByRecursion (IsJoined value edge) more
    → AllByRecursion (IsJoined value edge) (cons_option (joined_by n v e) more)
each_step value edge n (Some v) (Some e) more is_v is_e h = (record { krate = is_v; edge_is = is_e }, h)
each_step value edge n (Some v) None more is_v is_e h = h
each_step value edge n None (Some e) more is_v is_e h = h
each_step value edge n None None more is_v is_e h = h

each_joined : {N : Type 0} (value : ℕ → Option N) (edge : ℕ → Option ℕ) (ns : List ℕ) → AllByRecursion (IsJoined value edge) (joined_all value edge ns)
each_joined value edge [] = tt
each_joined value edge (n ∷ ns) = each_step value edge n (value n) (edge n) (joined_all value edge ns) refl refl (each_joined value edge ns)

nodes_step : {N : Type 0} (n : ℕ) (v : Option N) (e : Option ℕ) (more : List (Joined N)) (ns : List ℕ) → map (λ j. j.node) more ≡ ns
    → map (λ j. j.node) (cons_option (joined_by n v e) more) ≡ cond (both_some v e) (n ∷ ns) ns
nodes_step n (Some v) (Some e) more ns h = ap (λ zs. n ∷ zs) h
nodes_step n (Some v) None more ns h = h
nodes_step n None (Some e) more ns h = h
nodes_step n None None more ns h = h

joined_nodes : {N : Type 0} (value : ℕ → Option N) (edge : ℕ → Option ℕ) (ns : List ℕ) → map (λ j. j.node) (joined_all value edge ns) ≡ filter (λ n. both_some (value n) (edge n)) ns
joined_nodes value edge [] = refl
joined_nodes value edge (n ∷ ns) = nodes_step n (value n) (edge n) (joined_all value edge ns) (filter (λ n. both_some (value n) (edge n)) ns) (joined_nodes value edge ns)

-- there is a value, and an edge
pub record HasBoth {N : Type 0} (v : Option N) (e : Option ℕ) : Type 0 where
  pub krate : N
  pub krate_is : v ≡ Some krate
  pub edge : ℕ
  pub edge_is : e ≡ Some edge

some_both : {N : Type 0} (v : Option N) (e : Option ℕ) → both_some v e ≡ true → HasBoth v e
some_both (Some v) (Some e) h = record { krate = v; krate_is = refl; edge = e; edge_is = refl }
some_both (Some v) None h = absurd cc
some_both None (Some e) h = absurd cc
some_both None None h = absurd cc

-- what has to hold of the numbers that are looked at
pub record AreLookedAt {N : Type 0} (nodes : List (Node N)) (edge : ℕ → Option ℕ) (Is : ℕ → Type 0) (IsEdge : ℕ → ℕ → Type 0) (ns : List ℕ) : Type 0 where
  pub ascending : IsStrictlySortedBy nat_cmp ns
  pub among : (n : ℕ) → Is n → Contains ns n
  pub there : (n : ℕ) → Is n → HasBoth (value_at nodes n) (edge n)
  pub right : (n : ℕ) (x : N) (k : ℕ) → Contains ns n → value_at nodes n ≡ Some x → edge n ≡ Some k → Is n
  pub edges : (n k : ℕ) (x : N) → value_at nodes n ≡ Some x → edge n ≡ Some k → IsEdge n k

all_weaker : {X : Type 0} (P Q : X → Type 0) (xs : List X) → ((x : X) → P x → Q x) → AllByRecursion P xs → AllByRecursion Q xs
all_weaker P Q [] f h = tt
all_weaker P Q (x ∷ xs) f h = (f x h.0, all_weaker P Q xs f h.1)

pub are_joined : {N : Type 0} (nodes : List (Node N)) (edge : ℕ → Option ℕ) (Is : ℕ → Type 0) (IsEdge : ℕ → ℕ → Type 0) (ns : List ℕ) → AreLookedAt nodes edge Is IsEdge ns
    → AreJoined nodes Is IsEdge (joined_all (value_at nodes) edge ns)
are_joined {N} nodes edge Is IsEdge ns w =
    let found = joined_all (value_at nodes) edge ns in
    let test : ℕ → Bool = λ n. both_some (value_at nodes n) (edge n) in
    let same = joined_nodes (value_at nodes) edge ns in
    let each = each_joined (value_at nodes) edge ns in
    record {
      by_number = rw same (IsStrictlySortedBy-filter nat_cmp test ns w.ascending);
      exactly = λ n. (
        λ c.
            (let m = kept_of test ns n (member_of (filter test ns) n (subst (λ zs. Contains zs n) same c)) in
            let s = some_both (value_at nodes n) (edge n) m.1 in
            w.right n s.krate s.edge (contains_of ns n m.0) s.krate_is s.edge_is),
        λ is.
            (let t = w.there n is in
            let passes : test n ≡ true = ap (λ v. both_some v (edge n)) t.krate_is ∙ ap (λ e. both_some (Some t.krate) e) t.edge_is in
            subst (λ zs. Contains zs n) (sym same) (contains_of (filter test ns) n (member_filter test ns n passes (member_of ns n (w.among n is))))),
      );
      krates = All-from_recursion (λ (j : Joined N). value_at nodes j.node ≡ Some j.krate) found (all_weaker _ _ found (λ j h. h.krate) each);
      edges = All-from_recursion (λ (j : Joined N). IsEdge j.node j.edge) found (all_weaker _ _ found (λ j h. w.edges j.node j.edge j.krate h.krate h.edge_is) each);
    }

-- ---- which neighbours are looked at

pub cons_there : {X : Type 0} (o : Option X) (more : List X) (x : X) → (o ≡ Some x) ⊎ Member more x → Member (cons_option o more) x
cons_there (Some s) more x (inl e) = inl (same_Some s x e)
cons_there (Some s) more x (inr m) = inr m
cons_there None more x (inl e) = absurd (none-some x e)
cons_there None more x (inr m) = m

there_cons : {X : Type 0} (o : Option X) (more : List X) (x : X) → Member (cons_option o more) x → (o ≡ Some x) ⊎ Member more x
there_cons (Some s) more x (inl e) = inl (ap (λ z. Some z) e)
there_cons (Some s) more x (inr m) = inr m
there_cons None more x m = inr m

-- what the function returns for an element is in the list
given_there : {X Y : Type 0} (f : X → Option Y) (xs : List X) (x : X) (y : Y) → Member xs x → f x ≡ Some y → Member (filter_map f xs) y
given_there f [] x y m h = absurd m
given_there f (z ∷ zs) x y (inl e) h = cons_there (f z) (filter_map f zs) y (inl (ap f e ∙ h))
given_there f (z ∷ zs) x y (inr m) h = cons_there (f z) (filter_map f zs) y (inr (given_there f zs x y m h))

-- an element for which the function returns this
record Given {X Y : Type 0} (f : X → Option Y) (xs : List X) (y : Y) : Type 0 where
  from : X
  member : Member xs from
  gives : f from ≡ Some y

given_more : {X Y : Type 0} (f : X → Option Y) (x : X) (xs : List X) (y : Y) → Given f xs y → Given f (x ∷ xs) y
given_more f x xs y w = record { from = w.from; member = inr w.member; gives = w.gives }

given_of : {X Y : Type 0} (f : X → Option Y) (xs : List X) (y : Y) → Member (filter_map f xs) y → Given f xs y
given_of f [] y m = absurd m
given_of f (x ∷ xs) y m = elim (there_cons (f x) (filter_map f xs) y m) [
  | inl e ↦ record { from = x; member = inl refl; gives = e }
  | inr more ↦ given_more f x xs y (given_of f xs y more)
]

-- ---- crates to which edges lead

-- which edge it is
record TargetOf {N E : Type 0} (nodes : List (Node N)) (o : Option (GraphEdge E)) (k : ℕ) (t : Neighbour) : Type 0 where
  edge : GraphEdge E
  is : o ≡ Some edge
  home_is : home nodes edge.target ≡ t.krate
  number : k ≡ t.edge

target_at : {N E : Type 0} (nodes : List (Node N)) (o : Option (GraphEdge E)) (k : ℕ) (t : Neighbour) → target_in nodes k o ≡ Some t → TargetOf nodes o k t
target_at nodes None k t h = absurd (none-some t h)
target_at nodes (Some e) k t h =
    let same : record { krate = home nodes e.target; edge = k } ≡ t = same_Some _ t h in
    record { edge = e; is = refl; home_is = ap (λ (n : Neighbour). n.krate) same; number = ap (λ (n : Neighbour). n.edge) same }

target_leads : {N E : Type 0} (nodes : List (Node N)) (edges : List (GraphEdge E)) (p n k : ℕ) → Member (targets_from nodes edges p) (record { krate = n; edge = k }) → Leads nodes edges p n k
target_leads {E = E} nodes edges p n k m =
    let g = given_of (λ j. target_in nodes j (slice_get edges j)) (numbers_at edges p Outgoing) (record { krate = n; edge = k }) m in
    let t = target_at nodes (slice_get edges g.from) g.from (record { krate = n; edge = k }) g.gives in
    let a = edge_at edges p Outgoing g.from g.member in
    let one : a.edge ≡ t.edge = same_Some a.edge t.edge (sym a.at ∙ t.is) in
    record { edge = t.edge; at = ap (slice_get edges) (sym t.number) ∙ t.is; from = subst (λ (e : GraphEdge E). e.source ≡ p) one a.end; to = of_home nodes n t.edge.target t.home_is }

leads_target : {N E : Type 0} (nodes : List (Node N)) (edges : List (GraphEdge E)) (p n k : ℕ) (x : N) → value_at nodes n ≡ Some x → Leads nodes edges p n k → Member (targets_from nodes edges p) (record { krate = n; edge = k })
leads_target nodes edges p n k x v w =
    given_there (λ j. target_in nodes j (slice_get edges j)) (numbers_at edges p Outgoing) k (record { krate = n; edge = k })
    (at_edge edges p Outgoing k (record { edge = w.edge; at = w.at; end = w.from }))
    (ap (target_in nodes k) w.at ∙ ap (λ (h : ℕ). Some (record { krate = h; edge = k })) (home_of nodes n w.edge.target x v w.to))

-- ---- crates from which edges lead

record SourceOf {E : Type 0} (o : Option (GraphEdge E)) (k : ℕ) (s : Neighbour) : Type 0 where
  edge : GraphEdge E
  is : o ≡ Some edge
  source : edge.source ≡ s.krate
  number : k ≡ s.edge

source_at : {E : Type 0} (o : Option (GraphEdge E)) (k : ℕ) (s : Neighbour) → source_in k o ≡ Some s → SourceOf o k s
source_at None k s h = absurd (none-some s h)
source_at (Some e) k s h =
    let same : record { krate = e.source; edge = k } ≡ s = same_Some _ s h in
    record { edge = e; is = refl; source = ap (λ (n : Neighbour). n.krate) same; number = ap (λ (n : Neighbour). n.edge) same }

-- the edge with this number leads from `n` to `t` itself
record LeadsRight {E : Type 0} (edges : List (GraphEdge E)) (n t k : ℕ) : Type 0 where
  edge : GraphEdge E
  at : slice_get edges k ≡ Some edge
  from : edge.source ≡ n
  to : edge.target ≡ t

source_leads : {E : Type 0} (edges : List (GraphEdge E)) (t n k : ℕ) → Member (sources_to edges t) (record { krate = n; edge = k }) → LeadsRight edges n t k
source_leads {E = E} edges t n k m =
    let g = given_of (λ j. source_in j (slice_get edges j)) (numbers_at edges t Incoming) (record { krate = n; edge = k }) m in
    let s = source_at (slice_get edges g.from) g.from (record { krate = n; edge = k }) g.gives in
    let a = edge_at edges t Incoming g.from g.member in
    let one : a.edge ≡ s.edge = same_Some a.edge s.edge (sym a.at ∙ s.is) in
    record { edge = s.edge; at = ap (slice_get edges) (sym s.number) ∙ s.is; from = s.source; to = subst (λ (e : GraphEdge E). e.target ≡ t) one a.end }

leads_source : {E : Type 0} (edges : List (GraphEdge E)) (t n k : ℕ) → LeadsRight edges n t k → Member (sources_to edges t) (record { krate = n; edge = k })
leads_source edges t n k w =
    given_there (λ j. source_in j (slice_get edges j)) (numbers_at edges t Incoming) k (record { krate = n; edge = k })
    (at_edge edges t Incoming k (record { edge = w.edge; at = w.at; end = w.to }))
    (ap (source_in k) w.at ∙ ap (λ (h : ℕ). Some (record { krate = h; edge = k })) w.from)

into_leads : {N E : Type 0} (nodes : List (Node N)) (edges : List (GraphEdge E)) (d n k : ℕ) → Member (sources_into nodes edges d) (record { krate = n; edge = k }) → Leads nodes edges n d k
into_leads nodes edges d n k m = elim (member_append (sources_to edges d) (sources_over nodes edges d (sources_to edges d)) (record { krate = n; edge = k }) m) [
  | inl here ↦ (let w = source_leads edges d n k here in record { edge = w.edge; at = w.at; from = w.from; to = inl w.to })
  | inr there ↦
      (let over = spread_of (λ (s : Neighbour). sources_to edges s.krate) (filter (λ (s : Neighbour). is_feature_of nodes d s.krate) (sources_to edges d)) (record { krate = n; edge = k }) there in
      let feature = kept_of (λ (s : Neighbour). is_feature_of nodes d s.krate) (sources_to edges d) over.from over.member in
      let w = source_leads edges over.from.krate n k over.there in
      record { edge = w.edge; at = w.at; from = w.from; to = inr (of_feature nodes d w.edge.target (ap (is_feature_of nodes d) w.to ∙ feature.1)) })
]

-- an edge to a feature of `d` is found, since one leads from the feature to `d`
leads_into : {N E : Type 0} (nodes : List (Node N)) (edges : List (GraphEdge E)) (d n k : ℕ) → AreConnected nodes edges → Leads nodes edges n d k → Member (sources_into nodes edges d) (record { krate = n; edge = k })
leads_into nodes edges d n k connected w = elim w.to [
  | inl to ↦ member_left (sources_to edges d) _ _ (leads_source edges d n k (record { edge = w.edge; at = w.at; from = w.from; to = to }))
  | inr f ↦
      (let back = connected.features w.edge.target d f.0 f.1 in
      let at : slice_get edges back.among.0 ≡ Some back.edge = slice_get-get_or edges back.among.0 back.edge back.among.1 ∙ ap (λ e. Some e) back.among.2 in
      let s : Neighbour = record { krate = w.edge.target; edge = back.among.0 } in
      let source = leads_source edges d w.edge.target back.among.0 (record { edge = back.edge; at = at; from = back.from; to = back.to }) in
      let feature = member_filter (λ (z : Neighbour). is_feature_of nodes d z.krate) (sources_to edges d) s (feature_of nodes d w.edge.target f.0 f.1) source in
      member_right (sources_to edges d) _ _ (member_spread (λ (z : Neighbour). sources_to edges z.krate) _ s _ feature (leads_source edges w.edge.target n k (record { edge = w.edge; at = w.at; from = w.from; to = refl }))))
]

-- ---- the two answers

entry_named : (mapping : List (Option ℕ)) (d : ℕ) → Member mapping (Some d) → Member (numbers_in mapping) d
entry_named [] d m = absurd m
entry_named (o ∷ os) d (inl e) = cons_there o (numbers_in os) d (inl e)
entry_named (o ∷ os) d (inr m) = cons_there o (numbers_in os) d (inr (entry_named os d m))

named_step : (o : Option ℕ) (os : List (Option ℕ)) (d : ℕ) → Member (cons_option o (numbers_in os)) d → (Member (numbers_in os) d → Member os (Some d)) → Member (o ∷ os) (Some d)
named_step (Some n) os d (inl e) more = inl (ap (λ k. Some k) e)
named_step (Some n) os d (inr m) more = inr (more m)
named_step None os d m more = inr (more m)

named_entry : (mapping : List (Option ℕ)) (d : ℕ) → Member (numbers_in mapping) d → Member mapping (Some d)
named_entry [] d m = absurd m
named_entry (o ∷ os) d m = named_step o os d m (named_entry os d)

depends_at : {N : Type 0} (o : Option (Node N)) (d : ℕ) → Contains (named_by o) d → (id : Id) × (mapping : List (Option ℕ)) × (option_map planned_node o ≡ Some (PlannedCrate id mapping)) × Contains mapping (Some d)
depends_at None d c = absurd (member_of [] d c)
depends_at (Some (Krate id krate features mapping)) d c =
    (id_of id, mapping.items, refl, contains_of mapping.items (Some d) (named_entry mapping.items d (member_of (numbers_in mapping.items) d c)))
depends_at (Some (Feature krate_index name)) d c = absurd (member_of [] d c)

depends_of : {N : Type 0} (o : Option (Node N)) (d : ℕ) (id : Id) (mapping : List (Option ℕ)) → option_map planned_node o ≡ Some (PlannedCrate id mapping) → Contains mapping (Some d) → Contains (named_by o) d
depends_of None d id mapping e c = absurd cc
depends_of (Some (Krate i krate features m)) d id mapping e c =
    let same : mapping ≡ m.items = cc in
    contains_of (numbers_in m.items) d (entry_named m.items d (member_of m.items (Some d) (subst (λ os. Contains os (Some d)) same c)))
depends_of (Some (Feature krate_index name)) d id mapping e c = absurd cc

-- a crate depends on exactly the crates that its mapping names
pub depends_iff : {N : Type 0} (nodes : List (Node N)) (p d : ℕ) → Contains (named_by (slice_get nodes p)) d ↔ DependsOn (map planned_node nodes) p d
depends_iff nodes p d = (
  λ c. (let w = depends_at (slice_get nodes p) d c in record { id = w.0; mapping = w.1; at = slice_get-map planned_node nodes p ∙ w.2; among = w.3 }),
  λ w. depends_of (slice_get nodes p) d w.id w.mapping (sym (slice_get-map planned_node nodes p) ∙ w.at) w.among,
)

pub are_dependencies : {N E : Type 0} (nodes : List (Node N)) (edges : List (GraphEdge E)) (p : ℕ) (xs : List Neighbour) (ns : List ℕ) → AreConnected nodes edges → AreInOrder xs
    → ((x : Neighbour) → Contains xs x ↔ Contains (targets_from nodes edges p) x) → IsStrictlySortedBy nat_cmp ns → ((n : ℕ) → Contains ns n ↔ Contains (named_by (slice_get nodes p)) n)
    → AreDependencies nodes edges p (joined_all (value_at nodes) (first_edge xs) ns)
are_dependencies nodes edges p xs ns connected order found ascending same =
    let targets = targets_from nodes edges p in
    let w : AreNeighbours nodes (λ n k. Leads nodes edges p n k) xs = record {
      order = order;
      sound = λ n k m. target_leads nodes edges p n k (member_of targets _ ((found _).0 (contains_of xs _ m)));
      whole = λ n k x v l. member_of xs _ ((found _).1 (contains_of targets _ (leads_target nodes edges p n k x v l)));
    } in
    are_joined nodes (first_edge xs) _ _ ns (record {
      ascending = ascending;
      among = λ n is. (same n).1 ((depends_iff nodes p n).1 is);
      there = λ n is.
          (let led = connected.mappings p n is in
          let l = leading nodes edges p n led.leads in
          let e = first_there xs n l.0 (w.whole n l.0 led.krate led.crate l.1) in
          record { krate = led.krate; krate_is = led.crate; edge = e.0; edge_is = e.1 });
      right = λ n x k c v e. (depends_iff nodes p n).0 ((same n).0 c);
      edges = λ n k x v e. least_to nodes edges p xs w n k x v e;
    })

pub are_dependents : {N E : Type 0} (nodes : List (Node N)) (edges : List (GraphEdge E)) (d : ℕ) (xs : List Neighbour) (ns : List ℕ) → AreConnected nodes edges → AreInOrder xs
    → ((x : Neighbour) → Contains xs x ↔ Contains (sources_into nodes edges d) x) → IsStrictlySortedBy nat_cmp ns → ((n : ℕ) → Contains ns n ↔ Contains (map (λ x. x.krate) xs) n)
    → AreDependents nodes edges d (joined_all (value_at nodes) (first_edge xs) ns)
are_dependents nodes edges d xs ns connected order found ascending same =
    let sources = sources_into nodes edges d in
    let w : AreNeighbours nodes (λ n k. Leads nodes edges n d k) xs = record {
      order = order;
      sound = λ n k m. into_leads nodes edges d n k (member_of sources _ ((found _).0 (contains_of xs _ m)));
      whole = λ n k x v l. member_of xs _ ((found _).1 (contains_of sources _ (leads_into nodes edges d n k connected l)));
    } in
    let there : (n : ℕ) → (is : IsDependent nodes edges d n) → (k : ℕ) × Member xs (record { krate = n; edge = k }) = λ n is.
    (let l = leading nodes edges n d is.leads in (l.0, w.whole n l.0 is.krate is.crate l.1)) in
    are_joined nodes (first_edge xs) _ _ ns (record {
      ascending = ascending;
      among = λ n is. (same n).1 (contains_of (map (λ (x : Neighbour). x.krate) xs) n (member_map (λ (x : Neighbour). x.krate) xs _ (there n is).1));
      there = λ n is.
          (let m = there n is in
          let e = first_there xs n m.0 m.1 in
          record { krate = is.krate; krate_is = is.crate; edge = e.0; edge_is = e.1 });
      right = λ n x k c v e. record { krate = x; crate = v; leads = least_leads nodes edges n d k (least_from nodes edges d xs w n k x v e) };
      edges = λ n k x v e. least_from nodes edges d xs w n k x v e;
    })
