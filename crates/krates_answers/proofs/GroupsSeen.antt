-- Groups whose items are seen otherwise, or have their key in themselves.
use Rattle.std.proofs.Common.{◌≡◌, List, [], ◌∷◌, Bool, true, false, cond, Contains, map, filter, bytes_eq, nat_cmp, refl, sym, ap, ◌∙◌, subst}
use Rattle.std.proofs.lemmas.List.Elements.{All-map, All-weaker}
use Rattle.std.proofs.lemmas.Simd.{map-map}
use Rattle.std.specs.Cmp.Lexicographic.{slice_cmp}
use Rattle.std.specs.List.Sorted.{IsStrictlySortedBy}
use Rattle.krates_cm.specs.Document.{Text}
use Rattle.krates_answers.specs.Grouped.{AreGroups, Group, items_under, seen_group}

-- an item with its key, where the item is seen otherwise
abbrev pub seen_item : {T U : Type 0} → (T → U) → Text × T → Text × U
seen_item view p = (p.0, view p.1)

module _ {T U : Type 0} (view : T → U) where
  seen_step : (p : Text × T) (more : List (Text × T)) (others : List (Text × U)) (b : Bool) → map view (map (λ (p : Text × T). p.1) more) ≡ map (λ (p : Text × U). p.1) others
      → map view (map (λ (p : Text × T). p.1) (cond b (p ∷ more) more)) ≡ map (λ (p : Text × U). p.1) (cond b (seen_item view p ∷ others) others)
  seen_step p more others true e = ap (λ us. view p.1 ∷ us) e
  seen_step p more others false e = e

  pub items_under-seen : (q : Text) (items : List (Text × T)) → map view (items_under q items) ≡ items_under q (map (seen_item view) items)
  items_under-seen q [] = refl
  items_under-seen q (p ∷ ps) = seen_step p (filter (λ p. bytes_eq q p.0) ps) (filter (λ p. bytes_eq q p.0) (map (seen_item view) ps)) (bytes_eq q p.0) (items_under-seen q ps)

  same_keys : (items : List (Text × T)) → map (λ p. p.0) (map (seen_item view) items) ≡ map (λ p. p.0) items
  same_keys items = map-map (λ (p : Text × U). p.0) (seen_item view) items

  same_group_keys : (groups : List (Group T)) → map (λ g. g.key) (map (seen_group view) groups) ≡ map (λ g. g.key) groups
  same_group_keys groups = map-map (λ (g : Group U). g.key) (seen_group view) groups

  pub groups_seen : (items : List (Text × T)) (groups : List (Group T)) → AreGroups items groups → AreGroups (map (seen_item view) items) (map (seen_group view) groups)
  groups_seen items groups are = record {
    ascending = subst (IsStrictlySortedBy (slice_cmp nat_cmp)) (sym (same_group_keys groups)) are.ascending;
    exactly = λ q. (
      λ c. subst (λ (ks : List Text). Contains ks q) (sym (same_keys items)) ((are.exactly q).0 (subst (λ (ks : List Text). Contains ks q) (same_group_keys groups) c)),
      λ c. subst (λ (ks : List Text). Contains ks q) (sym (same_group_keys groups)) ((are.exactly q).1 (subst (λ (ks : List Text). Contains ks q) (same_keys items) c)),
    );
    each = All-map (λ (g : Group U). g.items ≡ items_under g.key (map (seen_item view) items)) (seen_group view) groups
        (All-weaker (λ (g : Group T). g.items ≡ items_under g.key items) (λ g. map view g.items ≡ items_under g.key (map (seen_item view) items))
        (λ g is. ap (map view) is ∙ items_under-seen g.key items) groups are.each);
  }

module _ {T : Type 0} (key : T → Text) (q : Text) where
  abbrev by_key : T → Text × T
  by_key x = (key x, x)

  keyed_step : (x : T) (more : List (Text × T)) (others : List T) (b : Bool) → map (λ (p : Text × T). p.1) more ≡ others
      → map (λ (p : Text × T). p.1) (cond b (by_key x ∷ more) more) ≡ cond b (x ∷ others) others
  keyed_step x more others true e = ap (λ xs. x ∷ xs) e
  keyed_step x more others false e = e

  -- where each item has its key in itself
  pub items_under-keyed : (xs : List T) → items_under q (map by_key xs) ≡ filter (λ x. bytes_eq q (key x)) xs
  items_under-keyed [] = refl
  items_under-keyed (x ∷ xs) = keyed_step x (filter (λ p. bytes_eq q p.0) (map by_key xs)) (filter (λ x. bytes_eq q (key x)) xs) (bytes_eq q (key x)) (items_under-keyed xs)
