-- The features that nodes list: their list, their numbers, and what a table has of them.
use Rattle.std.proofs.Common.{◌≡◌, ℕ, zero, suc, ◌+◌, ◌<◌, ◌≤◌, List, [], ◌∷◌, length, get_or, map, Bool, true, false, ◌&&◌, cond, Option, Some, None, MatchOption, option_map, Contains, refl, sym, ap, ◌∙◌, inl, inr, arith, subst, rules, eqb-true}
use Rattle.std.proofs.lemmas.Bool.{cases_order, eq-eqb}
use Rattle.std.proofs.lemmas.List.{length-map}
use Rattle.std.proofs.lemmas.List.Elements.{Contains-append_left, Contains-append_right, Contains-append_cases}
use Rattle.std.proofs.lemmas.Option.{slice_get-map, slice_get_read, slice_get_within, same_Some}
use Rattle.std.specs.BTreeMap.{BTreeMap, get}
use Rattle.std.specs.Cmp.Lexicographic.{bytes_decides}
use Rattle.std.specs.Cmp.Rules.{comparing}
use Rattle.std.specs.List.{slice_get}
use Rattle.std.specs.Ordering.{is_eq, eq_by_cmp}
use Rattle.krates_cm.specs.Document.{Text, NodeModel}
use Rattle.krates_rules.specs.Admission.{NoneDoubled}
use Rattle.krates_rules.specs.Facts.{Id}
use Rattle.krates_questions.specs.FeatureTable.{listed_cmp, same_listed, IsNumberOf, listed_view, features_from, features_of_node, listed_features, FeatureAt, TellsOwn}
use Rattle.krates_rules.specs.Features.{ListsFeature, LacksFeature}
use Rattle.krates_rules.specs.Resolved.{NodeAt, Resolved, HasNode}
use Rattle.krates_questions.specs.declared.feature_table.ListedFeature.{ListedFeature}
use Rattle.krates_rules.proofs.OnlyOne.{place_in, one_node}
use Rattle.krates_rules.proofs.Standings.{contains_at}

-- ---- the order of listed features

both_true : (a b : Bool) → (a && b) ≡ true → (a ≡ true) × (b ≡ true)
both_true true b h = (refl, h)
both_true false b h = absurd cc

same_listed_true : (a b : ListedFeature) → same_listed a b ≡ true → listed_view a ≡ listed_view b
same_listed_true a b h =
    let w = both_true _ _ h in
    let place : a.place.index ≡ b.place.index = eqb-true _ _ w.0 in
    let name : a.name.now ≡ b.name.now = (bytes_decides a.name.now b.name.now).0 w.1 in
    rw (place, name) refl

listed_ties : (a b : ListedFeature) → same_listed a b ≡ eq_by_cmp listed_cmp a b
listed_ties = search (comparing, rules) depth 9

pub listed_true : (a b : ListedFeature) → is_eq (listed_cmp a b) ≡ true → listed_view a ≡ listed_view b
listed_true a b h = same_listed_true a b (listed_ties a b ∙ h)

same_listed_of : (a b : ListedFeature) → listed_view a ≡ listed_view b → same_listed a b ≡ true
same_listed_of a b e =
    let place : a.place.index ≡ b.place.index = ap (λ (p : ℕ × Text). p.0) e in
    let name : a.name.now ≡ b.name.now = ap (λ (p : ℕ × Text). p.1) e in
    rw (place, name, eq-eqb b.place.index b.place.index refl, (bytes_decides b.name.now b.name.now).1 refl) refl

listed_of : (a b : ListedFeature) → listed_view a ≡ listed_view b → is_eq (listed_cmp a b) ≡ true
listed_of a b e = sym (listed_ties a b) ∙ same_listed_of a b e

-- ---- the table, filled number by number

-- the feature has this number, and no greater one below the bound
pub record IsLastBelow (all : List (ℕ × Text)) (x : ℕ × Text) (i n : ℕ) : Type 0 where
  pub at : slice_get all n ≡ Some x
  pub last : (m : ℕ) → m < i → slice_get all m ≡ Some x → m ≤ n

-- the greatest number of the feature below the bound, if it has one
abbrev pub IsNumberBelow : List (ℕ × Text) → ℕ × Text → ℕ → Option ℕ → Type 0
IsNumberBelow all x i answer = MatchOption answer ((n : ℕ) → n < i → slice_get all n ≡ Some x → ⊥) (IsLastBelow all x i)

abbrev pub AreNumberedBelow : List ListedFeature → ℕ → BTreeMap ListedFeature ℕ → Type 0
AreNumberedBelow xs i m = (q : ListedFeature) → IsNumberBelow (map listed_view xs) (listed_view q) i (get listed_cmp m q)

-- what the map returns for a feature, whether the new one is the same or another
number_step : (all : List (ℕ × Text)) (i : ℕ) (k q : ℕ × Text) (o : Option ℕ) (b : Bool) → slice_get all i ≡ Some k → (b ≡ true → k ≡ q) → (k ≡ q → b ≡ true) → IsNumberBelow all q i o
    → IsNumberBelow all q (i + 1) (cond b (Some i) o)
number_step all i k q o true here there back h = record { at = here ∙ ap (λ (x : ℕ × Text). Some x) (there refl); last = λ m lt s. omega (arith, lt) }
number_step all i k q (Some n) false here there back h = record {
  at = h.at;
  last = λ m lt s. elim (cases_order m i) [
    | inl e ↦ (
        let at : slice_get all i ≡ Some q = subst (λ (m : ℕ). slice_get all m ≡ Some q) e s in
        let yes : false ≡ true = back (same_Some k q (sym here ∙ at)) in
        absurd cc)
    | inr r ↦ elim r [ inl l ↦ h.last m l s | inr l ↦ absurd (omega arith) ]
  ];
}
number_step all i k q None false here there back h = λ n lt s. elim (cases_order n i) [
  | inl e ↦ (
      let at : slice_get all i ≡ Some q = subst (λ (m : ℕ). slice_get all m ≡ Some q) e s in
      let yes : false ≡ true = back (same_Some k q (sym here ∙ at)) in
      absurd cc)
  | inr r ↦ elim r [ inl l ↦ h n l s | inr l ↦ absurd (omega arith) ]
]

-- one more feature is inserted
pub numbers_more : (xs : List ListedFeature) (i : ℕ) (k : ListedFeature) (old new : BTreeMap ListedFeature ℕ) → i < length xs → k ≡ get_or xs i k
    → ((q : ListedFeature) → get listed_cmp new q ≡ cond (is_eq (listed_cmp k q)) (Some i) (get listed_cmp old q)) → AreNumberedBelow xs i old → AreNumberedBelow xs (i + 1) new
numbers_more xs i k old new lt is grown h q =
    let here : slice_get (map listed_view xs) i ≡ Some (listed_view k) = slice_get-map listed_view xs i ∙ ap (option_map listed_view) (slice_get_read xs (length xs) i k refl lt is) in
    subst (IsNumberBelow (map listed_view xs) (listed_view q) (i + 1)) (sym (grown q))
    (number_step (map listed_view xs) i (listed_view k) (listed_view q) (get listed_cmp old q) (is_eq (listed_cmp k q)) here (listed_true k q) (listed_of k q) (h q))

number_whole : (all : List (ℕ × Text)) (x : ℕ × Text) (i : ℕ) (o : Option ℕ) → length all ≤ i → IsNumberBelow all x i o → IsNumberOf all x o
number_whole all x i None le h = λ n s. h n (omega (arith, slice_get_within all n x s)) s
number_whole all x i (Some n) le h = record { at = h.at; last = λ m s. h.last m (omega (arith, le, slice_get_within all m x s)) s }

pub numbers_whole : (xs ys : List ListedFeature) (i : ℕ) (m : BTreeMap ListedFeature ℕ) → xs ≡ ys → length xs ≤ i → AreNumberedBelow xs i m → (q : ListedFeature) → IsNumberOf (map listed_view ys) (listed_view q) (get listed_cmp m q)
numbers_whole xs ys i m same le h q =
    let all = map listed_view xs in
    let long : length all ≤ i = subst (λ (n : ℕ). n ≤ i) (sym (length-map xs listed_view)) le in
    subst (λ (zs : List ListedFeature). IsNumberOf (map listed_view zs) (listed_view q) (get listed_cmp m q)) same
    (number_whole all (listed_view q) i (get listed_cmp m q) long (h q))

-- ---- the list of all listed features

of_node : (place : ℕ) (names : List Text) (k : ℕ) (x : ℕ × Text) → slice_get (features_of_node place names) k ≡ Some x → (place ≡ x.0) × (slice_get names k ≡ Some x.1)
of_node place [] k x h = absurd cc
of_node place (f ∷ fs) zero x h =
    let e : (place, f) ≡ x = same_Some (place, f) x h in
    (ap (λ (p : ℕ × Text). p.0) e, ap (λ (p : ℕ × Text). Some p.1) e)
of_node place (f ∷ fs) (suc k) x h = of_node place fs k x h

to_node : (place : ℕ) (names : List Text) (f : Text) → Contains names f → Contains (features_of_node place names) (place, f)
to_node place names f c =
    let w = place_in names f c in
    let beside : Text → ℕ × Text = λ g. (place, g) in
    contains_at (features_of_node place names) w.0 (place, f) (slice_get-map beside names w.0 ∙ ap (option_map beside) w.1)

-- a listed feature is a feature of the node at its place
from_listed : (p : ℕ) (ns : List NodeModel) (x : ℕ × Text) → Contains (features_from p ns) x → (k : ℕ) × (n : NodeModel) × (p + k ≡ x.0) × (slice_get ns k ≡ Some n) × Contains n.features x.1
from_listed p [] x (k, lt, is) = absurd (omega (arith, lt))
from_listed p (n ∷ ns) x h = elim (Contains-append_cases (features_of_node p n.features) (features_from (suc p) ns) x h) [
  | inl c ↦ (
      let at = place_in (features_of_node p n.features) x c in
      let w = of_node p n.features at.0 x at.1 in
      (zero, n, omega (arith, w.0), refl, contains_at n.features at.0 x.1 w.1))
  | inr c ↦ (
      let w = from_listed (suc p) ns x c in
      (suc w.0, w.1, omega (arith, w.2), w.3, w.4))
]

-- and each feature of a node is listed
to_listed : (p : ℕ) (ns : List NodeModel) (k : ℕ) (n : NodeModel) (f : Text) → slice_get ns k ≡ Some n → Contains n.features f → Contains (features_from p ns) (p + k, f)
to_listed p [] k n f at c = absurd cc
to_listed p (m ∷ ns) zero n f at c =
    let same : n ≡ m = sym (same_Some m n at) in
    let sum : p ≡ p + zero = omega arith in
    subst (λ (j : ℕ). Contains (features_from p (m ∷ ns)) (j, f)) sum
    (Contains-append_left (features_of_node p m.features) (features_from (suc p) ns) (p, f) (to_node p m.features f (subst (λ (o : NodeModel). Contains o.features f) same c)))
to_listed p (m ∷ ns) (suc k) n f at c =
    let sum : suc p + k ≡ p + suc k = omega arith in
    subst (λ (j : ℕ). Contains (features_from p (m ∷ ns)) (j, f)) sum
    (Contains-append_right (features_of_node p m.features) (features_from (suc p) ns) (suc p + k, f) (to_listed (suc p) ns k n f at c))

-- ---- numbers of features

has_node_at : (r : Resolved) (i : Id) (place : ℕ) (a : NodeAt r i place) → HasNode r i a.node
has_node_at r i place a = record { among = contains_at r.graph.nodes place a.node a.at; id = a.id }

-- a feature that has a number is listed
pub listed_at : (r : Resolved) (i : Id) (f : Text) (number : ℕ) → FeatureAt r i f number → ListsFeature r i f
listed_at r i f number a =
    let w = from_listed 0 r.graph.nodes (a.place, f) (contains_at (listed_features r) number (a.place, f) a.at) in
    let place : w.0 ≡ a.place = omega (arith, w.2) in
    let same : w.1 ≡ a.node.node = same_Some w.1 a.node.node (sym w.3 ∙ ap (λ k. slice_get r.graph.nodes k) place ∙ a.node.at) in
    record { node = a.node.node; has_node = has_node_at r i a.place a.node; among = subst (λ (n : NodeModel). Contains n.features f) same w.4 }

-- and a listed feature has a number
pub number_at : (r : Resolved) (i : Id) (f : Text) → ListsFeature r i f → (number : ℕ) × FeatureAt r i f number
number_at r i f l =
    let at = place_in r.graph.nodes l.node l.has_node.among in
    let w = place_in (listed_features r) (0 + at.0, f) (to_listed 0 r.graph.nodes at.0 l.node f at.1 l.among) in
    let sum : 0 + at.0 ≡ at.0 = omega arith in (
      w.0,
      record {
        place = at.0;
        at = w.1 ∙ ap (λ (k : ℕ). Some (k, f)) sum;
        node = record { node = l.node; at = at.1; id = l.has_node.id };
      },
    )

pub number_within : (r : Resolved) (i : Id) (f : Text) (number : ℕ) → FeatureAt r i f number → number < length (listed_features r)
number_within r i f number a = slice_get_within (listed_features r) number (a.place, f) a.at

-- a listed feature has the place of a node
pub listed_place : (r : Resolved) (number place : ℕ) (f : Text) → slice_get (listed_features r) number ≡ Some (place, f) → place < length r.graph.nodes
listed_place r number place f at =
    let w = from_listed 0 r.graph.nodes (place, f) (contains_at (listed_features r) number (place, f) at) in
    let lt = slice_get_within r.graph.nodes w.0 w.1 w.3 in
    omega (arith, lt, w.2)

-- a number belongs to only one feature
pub one_feature : (r : Resolved) (i j : Id) (f g : Text) (number : ℕ) → (a : FeatureAt r i f number) → (b : FeatureAt r j g number) → (a.place ≡ b.place) × (f ≡ g)
one_feature r i j f g number a b =
    let e : (a.place, f) ≡ (b.place, g) = same_Some (a.place, f) (b.place, g) (sym a.at ∙ b.at) in
    (ap (λ (p : ℕ × Text). p.0) e, ap (λ (p : ℕ × Text). p.1) e)

-- what a table returns for a feature of the node at a place
pub number_answer : (r : Resolved) (i : Id) (f : Text) (place : ℕ) (o : Option ℕ) → NoneDoubled r.metadata r.graph → NodeAt r i place → IsNumberOf (listed_features r) (place, f) o → MatchOption o (LacksFeature r i f) (FeatureAt r i f)
number_answer r i f place None distinct a none = λ lists.
    let same = one_node r i lists.node a.node distinct lists.has_node (has_node_at r i place a) in
    let sum : 0 + place ≡ place = omega arith in
    let c = subst (λ (n : NodeModel). Contains n.features f) same lists.among in
    let w = place_in (listed_features r) (0 + place, f) (to_listed 0 r.graph.nodes place a.node f a.at c) in
    none w.0 (w.1 ∙ ap (λ (k : ℕ). Some (k, f)) sum)
number_answer r i f place (Some n) distinct a own = record { place = place; at = own.at; node = a }

-- and what it returns is the feature's own number
pub own_answer : (r : Resolved) (x : ℕ × Text) (o : Option ℕ) → IsNumberOf (listed_features r) x o → TellsOwn r o
own_answer r x None none = tt
own_answer r x (Some n) own = λ m y at other. own.last m (other ∙ sym at ∙ own.at)
