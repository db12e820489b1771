-- Tests and orders of ids and features.
use Rattle.std.proofs.Common.{◌≡◌, ◌&&◌, ◌||◌, ◌==◌, Bool, true, false, ℕ, suc, ◌+◌, ◌≤◌, List, [], ◌∷◌, ◌++◌, All, drop, get_or, map, filter, cond, Ordering, Less, Equal, Greater, rules, refl, sym, ap, ◌∙◌, subst, arith}
use Rattle.std.proofs.lemmas.Cmp.{nat_cmp_total, ranked, tied_itself}
use Rattle.std.proofs.lemmas.List.{get_or-drop, length-drop}
use Rattle.std.proofs.lemmas.List.Elements.{All-head, All-tail}
use Rattle.std.proofs.lemmas.Map.Text.{is_eq-slice_cmp}
use Rattle.std.specs.Cmp.{IsTotalOrder, unsigned_ties}
use Rattle.std.specs.Cmp.Lexicographic.{slice_cmp}
use Rattle.std.specs.Cmp.Rules.{comparing}
use Rattle.std.specs.Ordering.{is_eq, nat_cmp, ordering_index, ordering_then}
use Rattle.std.specs.List.{AllByRecursion, flat_map, list_any}
use Rattle.std.specs.List.Sorted.{IsNonDecreasingBy, IsStrictlySortedBy}
use Rattle.std.specs.Str.{bytes_eq}
use mathlib.Core.List.{map-id}
use Rattle.krates_cm.specs.Document.{Text, text_view}
use Rattle.krates_ids.specs.Identity.{Identity, id_cmp}
use Rattle.krates_selection.specs.Selection.{feature_cmp, place_cmp, toggled_cmp}
use Rattle.krates_selection.specs.declared.selection.KeptEdge.{KeptEdge}
use Rattle.krates_selection.specs.declared.selection.ToggledFeature.{ToggledFeature}
use Rattle.krates_rules.specs.Facts.{Id}
use Rattle.krates_rules.specs.Referent.{id_order}
use Rattle.krates_rules.specs.Resolved.{id_of}
use Rattle.krates_drawing.specs.Drawing.{id_eq, place_of}
use Rattle.krates_drawing.specs.OutlineOrder.{AreByEnds}
use Rattle.krates_drawing.specs.declared.outline.EdgeRow.{EdgeRow}
use Rattle.krates_drawing.specs.declared.outline.FeatureRow.{FeatureRow}
use Rattle.krates_drawing.proofs.EqualRanges.{below_later, rises_weakly}

-- ---- tests

then_eq : (a b : Ordering) → is_eq (ordering_then a b) ≡ (is_eq a && is_eq b)
then_eq Less b = refl
then_eq Equal b = refl
then_eq Greater b = refl

pub and_same : (a b c d : Bool) → a ≡ c → b ≡ d → (a && b) ≡ (c && d)
and_same a b c d e f = ap (λ x. x && b) e ∙ ap (λ x. c && x) f

-- ids are equal by test where they compare so
pub equal_ids : (a b : Identity) → is_eq (id_cmp a b) ≡ id_eq (id_of a) (id_of b)
equal_ids a b =
    let name = slice_cmp nat_cmp a.name b.name in
    let version = slice_cmp nat_cmp a.version b.version in
    let source = slice_cmp nat_cmp a.source b.source in
    let inner : is_eq (ordering_then version source) ≡ (bytes_eq a.version b.version && bytes_eq a.source b.source) =
    then_eq version source ∙ and_same _ _ _ _ (is_eq-slice_cmp a.version b.version) (is_eq-slice_cmp a.source b.source) in
    then_eq name (ordering_then version source) ∙ and_same _ _ _ _ (is_eq-slice_cmp a.name b.name) inner

-- and so are numbers with names
pub equal_named : (m n : ℕ) (f g : Text) → is_eq (ordering_then (nat_cmp m n) (slice_cmp nat_cmp f g)) ≡ ((m == n) && bytes_eq f g)
equal_named m n f g = then_eq (nat_cmp m n) (slice_cmp nat_cmp f g) ∙ and_same _ _ _ _ (sym (unsigned_ties m n)) (is_eq-slice_cmp f g)

-- and so are two numbers
pub equal_ends : (a b : ℕ × ℕ) → is_eq (ordering_then (nat_cmp a.0 b.0) (nat_cmp a.1 b.1)) ≡ ((a.0 == b.0) && (a.1 == b.1))
equal_ends a b = then_eq (nat_cmp a.0 b.0) (nat_cmp a.1 b.1) ∙ and_same _ _ _ _ (sym (unsigned_ties a.0 b.0)) (sym (unsigned_ties a.1 b.1))

pub equal_self : (n : ℕ) → (n == n) ≡ true
equal_self n = search rules

pub bools_same : (a b : Bool) → (a ≡ true → b ≡ true) → (b ≡ true → a ≡ true) → a ≡ b
bools_same true b f g = sym (f refl)
bools_same false true f g = g refl
bools_same false false f g = refl

-- ---- tests of what is seen

step_place : (b c : Bool) (m n : ℕ) → b ≡ c → m ≡ n → cond b 0 (suc m) ≡ cond c 0 (suc n)
step_place b c m n e f = ap (λ x. cond x 0 (suc m)) e ∙ ap (λ k. cond c 0 (suc k)) f

-- the place among what is seen is the place among all
pub place_seen : {A B : Type 0} (P : A → Type 0) (v : A → B) (p : B → Bool) (q : A → Bool) (xs : List A) → All P xs → ((x : A) → P x → q x ≡ p (v x)) → place_of p (map v xs) ≡ place_of q xs
place_seen P v p q [] all same = refl
place_seen P v p q (x ∷ xs) all same = step_place (p (v x)) (q x) (place_of p (map v xs)) (place_of q xs) (sym (same x (All-head P x xs all))) (place_seen P v p q xs (All-tail P x xs all) same)

step_filter : {A B : Type 0} (v : A → B) (b c : Bool) (x : A) (ys : List B) (xs : List A) → b ≡ c → ys ≡ map v xs → cond b (v x ∷ ys) ys ≡ map v (cond c (x ∷ xs) xs)
step_filter v true true x ys xs e f = ap (λ zs. v x ∷ zs) f
step_filter v true false x ys xs e f = absurd cc
step_filter v false true x ys xs e f = absurd cc
step_filter v false false x ys xs e f = f

-- what is left of what is seen is what is seen of what is left
pub filter_seen : {A B : Type 0} (P : A → Type 0) (v : A → B) (p : B → Bool) (q : A → Bool) (xs : List A) → All P xs → ((x : A) → P x → q x ≡ p (v x)) → filter p (map v xs) ≡ map v (filter q xs)
filter_seen P v p q [] all same = refl
filter_seen P v p q (x ∷ xs) all same = step_filter v (p (v x)) (q x) x (filter p (map v xs)) (filter q xs) (sym (same x (All-head P x xs all))) (filter_seen P v p q xs (All-tail P x xs all) same)

any_step : (a b c d : Bool) → a ≡ b → c ≡ d → (a || c) ≡ (b || d)
any_step a b c d e f = ap (λ z. z || c) e ∙ ap (λ z. b || z) f

-- something that is seen passes where something does
pub any_seen : {A B : Type 0} (P : A → Type 0) (v : A → B) (p : B → Bool) (q : A → Bool) (xs : List A) → All P xs → ((x : A) → P x → q x ≡ p (v x)) → list_any p (map v xs) ≡ list_any q xs
any_seen P v p q [] all same = refl
any_seen P v p q (x ∷ xs) all same = any_step (p (v x)) (q x) (list_any p (map v xs)) (list_any q xs) (sym (same x (All-head P x xs all))) (any_seen P v p q xs (All-tail P x xs all) same)

-- ---- orders

pub equal_order : (a b : Id) → is_eq (id_order a b) ≡ id_eq a b
equal_order a b =
    let x : Identity = record { text = []; name = a.name; version = a.version; source = a.source; is_opaque = false } in
    let y : Identity = record { text = []; name = b.name; version = b.version; source = b.source; is_opaque = false } in
    equal_ids x y

pub ids_total : IsTotalOrder id_cmp
ids_total = search (comparing, rules) depth 9

abbrev pub named_cmp : ℕ × Text → ℕ × Text → Ordering
named_cmp a b = ordering_then (nat_cmp a.0 b.0) (slice_cmp nat_cmp a.1 b.1)

pub named_total : IsTotalOrder named_cmp
named_total = search (comparing, rules) depth 9

-- ---- lists in order, seen otherwise

all_as : {A B C : Type 0} (R : B → B → Ordering) (S : C → C → Ordering) (f : A → B) (g : A → C) → ((a b : A) → S (g a) (g b) ≡ R (f a) (f b)) → (x : A) (xs : List A) → AllByRecursion (λ y. R (f x) y ≡ Less) (map f xs) → AllByRecursion (λ y. S (g x) y ≡ Less) (map g xs)
all_as R S f g same x [] h = tt
all_as R S f g same x (y ∷ ys) h = (same x y ∙ h.0, all_as R S f g same x ys h.1)

pub sorted_as : {A B C : Type 0} (R : B → B → Ordering) (S : C → C → Ordering) (f : A → B) (g : A → C) → ((a b : A) → S (g a) (g b) ≡ R (f a) (f b)) → (xs : List A) → IsStrictlySortedBy R (map f xs) → IsStrictlySortedBy S (map g xs)
unfolding IsStrictlySortedBy
sorted_as R S f g same [] h = tt
sorted_as R S f g same (x ∷ xs) h = (all_as R S f g same x xs h.0, sorted_as R S f g same xs h.1)

abbrev pub ends_cmp : ℕ × ℕ → ℕ × ℕ → Ordering
ends_cmp a b = ordering_then (nat_cmp a.0 b.0) (nat_cmp a.1 b.1)

pub ends_total : IsTotalOrder ends_cmp
ends_total = search (comparing, rules) depth 9

abbrev pub ends_of : EdgeRow → ℕ × ℕ
ends_of l = (l.edge.parent, l.edge.child)

abbrev pub feature_key : FeatureRow → ℕ × Text
feature_key n = (n.feature.krate, text_view n.feature.name)

-- features in order, by crate and name
pub features_in_order : (xs : List FeatureRow) → IsStrictlySortedBy feature_cmp (map (λ n. n.feature) xs) → IsStrictlySortedBy named_cmp (map feature_key xs)
features_in_order xs h = sorted_as feature_cmp named_cmp (λ (n : FeatureRow). n.feature) feature_key (λ a b. refl) xs h

-- ---- kept edges and toggled features in order

first_low : (a b : Ordering) → ordering_then a b ≡ Less → a ≡ Greater → ⊥
first_low Less b e g = cc g
first_low Equal b e g = cc g
first_low Greater b e g = cc e

second_low : (a b c : Ordering) → a ≡ Equal → ordering_then a (ordering_then b c) ≡ Less → b ≡ Greater → ⊥
second_low Less b c same e g = cc same
second_low Equal b c same e g = first_low b c e g
second_low Greater b c same e g = cc same

low_of : (m n : ℕ) (r : Ordering) → r ≡ nat_cmp m n → (r ≡ Greater → ⊥) → m ≤ n
low_of m n Less e low = let lt = ranked m n Less e in omega (arith, lt)
low_of m n Equal e low = let same = ranked m n Equal e in omega (arith, same)
low_of m n Greater e low = absurd (low refl)

both_low : (a b c : Ordering) → ordering_then a (ordering_then b c) ≡ Less → ordering_then a b ≡ Greater → ⊥
both_low Less b c e g = cc g
both_low Equal b c e g = first_low b c e g
both_low Greater b c e g = cc e

-- edges in order rise by both ends
pub links_by_ends : (xs : List EdgeRow) (q : ℕ × ℕ) → AreByEnds xs → IsNonDecreasingBy (λ (l : EdgeRow). ordering_index (ends_cmp (ends_of l) q)) xs
links_by_ends xs q by = rises_weakly ends_total ends_of xs q (λ i j d l lt.
    let a = (get_or xs i d).edge in
    let b = (get_or xs j d).edge in
    both_low (nat_cmp a.parent b.parent) (nat_cmp a.child b.child) (nat_cmp a.place b.place) (by i j d l lt))

-- what is left of kept edges is in their order
pub links_behind : (xs : List EdgeRow) (n : ℕ) → IsStrictlySortedBy place_cmp (map (λ l. l.edge) xs) → AreByEnds (drop n xs)
links_behind xs n sorted i j d l lt =
    let later = below_later place_cmp (λ (l : EdgeRow). l.edge) xs (n + i) (n + j) d sorted (omega (arith, l)) (omega (arith, lt, length-drop n xs)) in
    ap (λ (z : EdgeRow). place_cmp z.edge (get_or (drop n xs) j d).edge) (get_or-drop n xs i d) ∙ ap (λ (z : EdgeRow). place_cmp (get_or xs (n + i) d).edge z.edge) (get_or-drop n xs j d) ∙ later

-- a kept edge comes no later than the next, by the numbers of its crates
pub record Precedes (a b : KeptEdge) : Type 0 where
  pub parent : a.parent ≤ b.parent
  pub child : a.parent ≡ b.parent → a.child ≤ b.child

pub precedes : (a b : KeptEdge) → place_cmp a b ≡ Less → Precedes a b
precedes a b less =
    let parents = nat_cmp a.parent b.parent in
    let children = nat_cmp a.child b.child in
    record {
      parent = low_of a.parent b.parent parents refl (first_low parents (ordering_then children (nat_cmp a.place b.place)) less);
      child = λ same. low_of a.child b.child children refl (second_low parents children (nat_cmp a.place b.place) (ap (nat_cmp a.parent) (sym same) ∙ tied_itself nat_cmp_total a.parent) less);
    }

abbrev pub crates_of : ToggledFeature → ℕ × ℕ
crates_of t = (t.by, t.krate)

-- toggled features in order rise by both crates
pub toggled_by_crates : (xs : List ToggledFeature) (q : ℕ × ℕ) → IsStrictlySortedBy toggled_cmp xs → IsNonDecreasingBy (λ (t : ToggledFeature). ordering_index (ends_cmp (crates_of t) q)) xs
toggled_by_crates xs q sorted = rises_weakly ends_total crates_of xs q (λ i j d l lt.
    let a = get_or xs i d in
    let b = get_or xs j d in
    both_low (nat_cmp a.by b.by) (nat_cmp a.krate b.krate) (slice_cmp nat_cmp (text_view a.name) (text_view b.name))
    (below_later toggled_cmp (λ (t : ToggledFeature). t) xs i j d (subst (IsStrictlySortedBy toggled_cmp) (sym (map-id xs)) sorted) l lt))

-- ---- tests and functions that are alike

pub any_alike : {A : Type 0} (p q : A → Bool) → ((x : A) → p x ≡ q x) → (xs : List A) → list_any p xs ≡ list_any q xs
any_alike p q same [] = refl
any_alike p q same (x ∷ xs) = any_step (p x) (q x) (list_any p xs) (list_any q xs) (same x) (any_alike p q same xs)

pub maps_alike : {A B : Type 0} (f g : A → B) → ((x : A) → f x ≡ g x) → (xs : List A) → map f xs ≡ map g xs
maps_alike f g same [] = refl
maps_alike f g same (x ∷ xs) = ap (λ y. y ∷ map f xs) (same x) ∙ ap (λ ys. g x ∷ ys) (maps_alike f g same xs)

pub flat_maps_alike : {A B : Type 0} (f g : A → List B) → ((x : A) → f x ≡ g x) → (xs : List A) → flat_map f xs ≡ flat_map g xs
flat_maps_alike f g same [] = refl
flat_maps_alike f g same (x ∷ xs) = ap (λ ys. ys ++ flat_map f xs) (same x) ∙ ap (λ ys. g x ++ ys) (flat_maps_alike f g same xs)
