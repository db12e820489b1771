-- Crates and features of an outline are at their numbers: what their mappings name and where their edges lead.
use Rattle.std.proofs.Common.{◌≡◌, ◌⊎◌, inl, inr, ℕ, zero, suc, ◌+◌, true, false, cond, List, [], ◌∷◌, ◌++◌, map, length, Option, Some, Contains, slice_get, Ordering, Less, Equal, Greater, refl, sym, ap, ◌∙◌, subst, arith, nat_cmp}
use Rattle.std.proofs.lemmas.Bool.{and_parts, and_from, false_from_ne_true}
use Rattle.std.proofs.lemmas.Cmp.{nat_list_cmp_total}
use Rattle.std.proofs.lemmas.Option.{get_or_from_slice_get, none-some, same_Some, slice_get-map, slice_get_within}
use Rattle.std.specs.Cmp.Lexicographic.{slice_cmp}
use Rattle.std.specs.List.{AllByRecursion, range_with_len}
use Rattle.std.specs.List.Sorted.{IsStrictlySortedBy}
use Rattle.std.specs.Ordering.{is_eq, ordering_reverse, ordering_then}
use Rattle.krates_cm.specs.Document.{Text}
use Rattle.krates_rules.specs.Facts.{Id}
use Rattle.krates_rules.specs.Referent.{id_order}
use Rattle.krates_rules.specs.Resolved.{Resolved}
use Rattle.krates_rules.specs.Setting.{SettingModel}
use Rattle.krates_rules.proofs.SeenInOrder.{equal_self}
use Rattle.krates_drawing.specs.Agreement.{DependsOn, LeadsTo}
use Rattle.krates_drawing.specs.Connected.{IsLedInto, LeadsHome, AreConnected}
use Rattle.krates_drawing.specs.Drawing.{AtCrate, AtFeature, Feature, line, place_of, is_crate, is_feature, id_eq, crate_number, planned_edges, mapped, mapping, PlannedNode, PlannedCrate, PlannedFeature, planned_crate, planned_feature, planned_nodes}
use Rattle.krates_drawing.specs.Outline.{CrateRow, FeatureRow, Outline, IsOutline, crate_order, enabled_order}
use Rattle.krates_drawing.proofs.Agreed.{claimant, claimant_of, image_of, between_leads}
use Rattle.krates_drawing.proofs.DrawnEdges.{own, edge_in}
use Rattle.krates_drawing.proofs.ById.{id_order_total}
use Rattle.krates_drawing.proofs.Closed.{keeps_ends}
use Rattle.krates_drawing.proofs.Holding.{holds}
use Rattle.krates_rules.proofs.Members.{Member, member_of, contains_of, mapped_of}
use Rattle.krates_drawing.proofs.NodeNumbers.{id_is, id_same, text_is, text_same, HasCrate, crate_node}

-- ---- nothing is below itself

turned : (o : Ordering) → o ≡ ordering_reverse o → o ≡ Less → ⊥
turned Less e h = cc e
turned Equal e h = cc h
turned Greater e h = cc h

equal_only : (o : Ordering) → is_eq o ≡ true → o ≡ Less → ⊥
equal_only Less e h = cc e
equal_only Equal e h = cc h
equal_only Greater e h = cc h

then_less : (x y : Ordering) → is_eq x ≡ true → ordering_then x y ≡ Less → y ≡ Less
then_less Less y e h = absurd (cc e)
then_less Equal y e h = h
then_less Greater y e h = absurd (cc e)

self_equal : (a : Id) → is_eq (id_order a a) ≡ true
self_equal a = ap is_eq (equal_self id_order_total a)

id_not_below : (a b : Id) → a ≡ b → id_order a b ≡ Less → ⊥
id_not_below a b e h = equal_only (id_order a a) (self_equal a) (ap (id_order a) e ∙ h)

feature_not_below : (a b : Id) (s t : Text) → a ≡ b → s ≡ t → ordering_then (id_order a b) (slice_cmp nat_cmp s t) ≡ Less → ⊥
feature_not_below a b s t e f h =
    let ids : is_eq (id_order a b) ≡ true = subst (λ i. is_eq (id_order a i) ≡ true) e (self_equal a) in
    let names : slice_cmp nat_cmp s s ≡ Less = ap (slice_cmp nat_cmp s) f ∙ then_less (id_order a b) (slice_cmp nat_cmp s t) ids h in
    turned (slice_cmp nat_cmp s s) (nat_list_cmp_total.antisymm s s) names

-- ---- crates under their numbers

crate_below : (i : CrateRow) (ks : List CrateRow) (p : ℕ) (k : CrateRow) → AllByRecursion (λ j. crate_order i j ≡ Less) ks → slice_get ks p ≡ Some k → crate_order i k ≡ Less
crate_below i [] p k all at = absurd (none-some k at)
crate_below i (x ∷ xs) zero k all at = subst (λ q. crate_order i q ≡ Less) (same_Some x k at) all.0
crate_below i (x ∷ xs) (suc p) k all at = crate_below i xs p k all.1 at

own_crate : (ks : List CrateRow) → IsStrictlySortedBy crate_order ks → (p : ℕ) (k : CrateRow) → slice_get ks p ≡ Some k → place_of (is_crate k.id) ks ≡ p
unfolding IsStrictlySortedBy
own_crate [] sorted p k at = absurd (none-some k at)
own_crate (x ∷ xs) sorted zero k at =
    let here : is_crate k.id x ≡ true = subst (λ (q : CrateRow). id_eq x.id q.id ≡ true) (same_Some x k at) (id_same x.id) in
    ap (λ b. cond b 0 (suc (place_of (is_crate k.id) xs))) here
own_crate (x ∷ xs) sorted (suc p) k at =
    let below = crate_below x xs p k sorted.0 at in
    let fails : is_crate k.id x ≡ false = false_from_ne_true (is_crate k.id x) (λ h. id_not_below x.id k.id (id_is x.id k.id h) below) in
    ap (λ b. cond b 0 (suc (place_of (is_crate k.id) xs))) fails ∙ ap suc (own_crate xs sorted.1 p k at)

-- ---- features under theirs

feature_below : (f : FeatureRow) (ns : List FeatureRow) (j : ℕ) (n : FeatureRow) → AllByRecursion (λ g. enabled_order f g ≡ Less) ns → slice_get ns j ≡ Some n → enabled_order f n ≡ Less
feature_below f [] j n all at = absurd (none-some n at)
feature_below f (x ∷ xs) zero n all at = subst (λ q. enabled_order f q ≡ Less) (same_Some x n at) all.0
feature_below f (x ∷ xs) (suc j) n all at = feature_below f xs j n all.1 at

own_feature : (ns : List FeatureRow) → IsStrictlySortedBy enabled_order ns → (j : ℕ) (n : FeatureRow) → slice_get ns j ≡ Some n → place_of (is_feature n.krate n.name) ns ≡ j
unfolding IsStrictlySortedBy
own_feature [] sorted j n at = absurd (none-some n at)
own_feature (x ∷ xs) sorted zero n at =
    let here : is_feature n.krate n.name x ≡ true = subst (λ (q : FeatureRow). is_feature q.krate q.name x ≡ true) (same_Some x n at) (and_from _ _ (id_same x.krate) (text_same x.name)) in
    ap (λ b. cond b 0 (suc (place_of (is_feature n.krate n.name) xs))) here
own_feature (x ∷ xs) sorted (suc j) n at =
    let below = feature_below x xs j n sorted.0 at in
    let fails : is_feature n.krate n.name x ≡ false = false_from_ne_true (is_feature n.krate n.name x) (λ h. (
    let w = and_parts _ _ h in
    feature_not_below x.krate n.krate x.name n.name (id_is x.krate n.krate w.0) (text_is x.name n.name w.1) below)) in
    ap (λ b. cond b 0 (suc (place_of (is_feature n.krate n.name) xs))) fails ∙ ap suc (own_feature xs sorted.1 j n at)

-- ---- nodes by number

-- a node is the node of a crate or of a feature
data NodeAt (t : Outline) (p : ℕ) (s : PlannedNode) : Type 0 where
  of_crate : (k : CrateRow) → slice_get t.krates p ≡ Some k → planned_crate t k ≡ s → NodeAt t p s
  of_feature : (j : ℕ) (n : FeatureRow) → slice_get t.features j ≡ Some n → length t.krates + j ≡ p → planned_feature t n ≡ s → NodeAt t p s

record MappedAt {A B : Type 0} (f : A → B) (xs : List A) (k : ℕ) (y : B) : Type 0 where
  from : A
  at : slice_get xs k ≡ Some from
  is : f from ≡ y

mapped_at : {A B : Type 0} (f : A → B) (xs : List A) (k : ℕ) (y : B) → slice_get (map f xs) k ≡ Some y → MappedAt f xs k y
mapped_at f xs k y e = let w = image_of f (slice_get xs k) y (sym (slice_get-map f xs k) ∙ e) in record { from = w.0; at = w.1; is = w.2 }

either_at : {A B C : Type 0} (f : A → C) (g : B → C) (xs : List A) (ys : List B) (k : ℕ) (z : C) → slice_get (map f xs ++ map g ys) k ≡ Some z
    → MappedAt f xs k z ⊎ ((j : ℕ) × (length xs + j ≡ k) × MappedAt g ys j z)
either_at f g [] ys k z e = inr (k, omega arith, mapped_at g ys k z e)
either_at f g (x ∷ xs) ys zero z e = inl (record { from = x; at = refl; is = same_Some (f x) z e })
either_at f g (x ∷ xs) ys (suc k) z e = elim (either_at f g xs ys k z e) [
  | inl w ↦ inl (record { from = w.from; at = w.at; is = w.is })
  | inr w ↦ inr (w.0, let same = w.1 in omega (arith, same), w.2)
]

node_at : (t : Outline) (p : ℕ) (s : PlannedNode) → slice_get (planned_nodes t) p ≡ Some s → NodeAt t p s
node_at t p s e = elim (either_at (planned_crate t) (planned_feature t) t.krates t.features p s e) [
  | inl w ↦ of_crate w.from w.at w.is
  | inr w ↦ of_feature w.0 w.2.from w.2.at w.1 w.2.is
]

got_member : {A : Type 0} (xs : List A) (k : ℕ) (x : A) → slice_get xs k ≡ Some x → Member xs x
got_member xs k x e = member_of xs x (k, slice_get_within xs k x e, get_or_from_slice_get xs k x x e)

-- ---- all of it

-- the crate of a node
record CrateHere (t : Outline) (p : ℕ) (id : Id) (m : List (Option ℕ)) : Type 0 where
  krate : CrateRow
  member : Member t.krates krate
  number : crate_number t krate.id ≡ p
  id_is : krate.id ≡ id
  mapping_is : mapping t krate ≡ m

crate_of_node : (r : Resolved) (s : SettingModel) (t : Outline) → IsOutline r s t → (p : ℕ) (id : Id) (m : List (Option ℕ)) → NodeAt t p (PlannedCrate id m) → CrateHere t p id m
crate_of_node r s t outline p id m (of_crate k at is) =
    record { krate = k; member = got_member t.krates p k at; number = own_crate t.krates outline.by_id p k at; id_is = cc is; mapping_is = cc is }
crate_of_node r s t outline p id m (of_feature j n at place is) = absurd (cc is)

leads_home : (r : Resolved) (s : SettingModel) (t : Outline) → IsOutline r s t → (n d : ℕ) (name : Text) → NodeAt t n (PlannedFeature d name) → LeadsHome (planned_edges t) n d
leads_home r s t outline n d name (of_crate k at is) = absurd (cc is)
leads_home r s t outline n d name (of_feature j f at place is) =
    let l = line t (AtFeature f.krate f.name) (AtCrate f.krate) Feature in
    let here : place_of (is_feature f.krate f.name) t.features ≡ j = own_feature t.features outline.by_crate j f at in
    record {
      line = l;
      among = contains_of (planned_edges t) l (edge_in t _ _ _ (keeps_ends r s t (holds r s t outline)) (own f (got_member t.features j f at)));
      from = ap (λ i. length t.krates + i) here ∙ place;
      to = cc is;
    }

led_into : (r : Resolved) (s : SettingModel) (t : Outline) → IsOutline r s t → (p d : ℕ) → DependsOn (planned_nodes t) p d → IsLedInto (planned_nodes t) (planned_edges t) p d
unfolding mapping
led_into r s t outline p d w =
    let here = crate_of_node r s t outline p w.id w.mapping (node_at t p (PlannedCrate w.id w.mapping) w.at) in
    let entry = mapped_of (mapped t here.krate.id) (range_with_len 0 here.krate.declared) (Some d) (member_of (mapping t here.krate) (Some d) (subst (λ m. Contains m (Some d)) (sym here.mapping_is) w.among)) in
    let q = image_of (λ z. crate_number t z.id) (claimant t here.krate.id entry.from) d entry.is in
    let claim = claimant_of t here.krate.id entry.from q.0 q.1 in
    let kept : HasCrate t (q.0).id = record { krate = q.0; member = claim.0; id = refl } in
    let node = crate_node t (q.0).id kept in
    let leads = between_leads r s t here.krate.id (q.0).id (holds r s t outline) claim.1.between in
    record {
      id = node.krate.id;
      mapping = mapping t node.krate;
      at = ap (slice_get (planned_nodes t)) (sym q.2) ∙ node.at;
      leads = subst (λ n. LeadsTo (planned_nodes t) (planned_edges t) n d) here.number (subst (λ n. LeadsTo (planned_nodes t) (planned_edges t) (crate_number t here.krate.id) n) q.2 leads);
    }

pub connected : AreConnected
connected r s t outline = record {
  mappings = λ p d w. led_into r s t outline p d w;
  features = λ n d name at. leads_home r s t outline n d name (node_at t n (PlannedFeature d name) at);
  crates = λ p id m at.
      (let here = crate_of_node r s t outline p id m (node_at t p (PlannedCrate id m) at) in
      record {
        kept = record { krate = here.krate; among = contains_of t.krates here.krate here.member; id = here.id_is };
        number = ap (crate_number t) (sym here.id_is) ∙ here.number;
      });
}
