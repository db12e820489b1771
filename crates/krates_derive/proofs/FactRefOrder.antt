-- The orders of keys: two compare as equal exactly where they are the same fact, or the same crates.
use Rattle.std.proofs.Common.{◌≡◌, ◌↔◌, Ordering, Equal, refl, ap}
use Rattle.std.specs.Ordering.{ordering_then}
use Rattle.krates_derive.specs.FactRef.{edge_of_ref, fact_cmp, fact_of_ref}
use Rattle.krates_derive.specs.declared.fact_ref.FactRef.{FactRef}
use Rattle.krates_derive.specs.declared.fact_ref.FactRef.TheVariants as keys
use Rattle.krates_derive.specs.declared.fact_set.Pair.{Pair}
use Rattle.krates_ids.specs.Identity.{Identity, id_cmp}
use Rattle.krates_rules.specs.Facts.{Id, Edge, Crate}
use Rattle.krates_rules.specs.Resolved.{id_of}
use Rattle.krates_rules.proofs.DistinctIds.{OrderTellsSame, id_tells}
use Rattle.krates_rules.proofs.KeyOrder.{equal_then, kind_tells, option_tells, text_tells, then_equal}

-- how two crates compare with those of a pair
abbrev pub order_of_pair : Identity → Identity → Pair → Ordering
order_of_pair p c k = ordering_then (id_cmp p k.parent.now) (id_cmp c k.child.now)

-- the same crates compare as equal, and no others
pub pair_to : OrderTellsSame → (p c : Identity) (k : Pair) → order_of_pair p c k ≡ Equal → (id_of p ≡ id_of k.parent.now) × (id_of c ≡ id_of k.child.now)
pair_to tells p c k h =
    let w = then_equal _ _ h in
    ((id_tells tells p k.parent.now).0 w.0, (id_tells tells c k.child.now).0 w.1)

pub pair_from : OrderTellsSame → (p c : Identity) (k : Pair) → id_of p ≡ id_of k.parent.now → id_of c ≡ id_of k.child.now → order_of_pair p c k ≡ Equal
pair_from tells p c k from to = equal_then _ _ ((id_tells tells p k.parent.now).1 from) ((id_tells tells c k.child.now).1 to)

-- keys compare as equal exactly where they are the same fact
pub key_tells : OrderTellsSame → (a b : FactRef) → (fact_cmp a b ≡ Equal) ↔ (fact_of_ref a ≡ fact_of_ref b)
key_tells tells (keys.Crate k) (keys.Crate j) = (λ h. ap (λ (i : Id). Crate i) ((id_tells tells k.now j.now).0 h), λ e. (let i : id_of k.now ≡ id_of j.now = cc in (id_tells tells k.now j.now).1 i))
key_tells tells (keys.Crate k) (keys.Feature g) = (λ h. absurd cc, λ e. absurd cc)
key_tells tells (keys.Crate k) (keys.Kept e) = (λ h. absurd cc, λ e. absurd cc)
key_tells tells (keys.Crate k) (keys.Toggled u) = (λ h. absurd cc, λ e. absurd cc)
key_tells tells (keys.Feature f) (keys.Crate j) = (λ h. absurd cc, λ e. absurd cc)
key_tells tells (keys.Feature f) (keys.Feature g) =
    let i = id_tells tells f.krate.now g.krate.now in
    let n = text_tells f.name.now g.name.now in (
      λ h. (let w = then_equal _ _ h in rw (i.0 w.0, n.0 w.1) refl),
      λ e. equal_then _ _ (i.1 cc) (n.1 cc),
    )
key_tells tells (keys.Feature f) (keys.Kept x) = (λ h. absurd cc, λ e. absurd cc)
key_tells tells (keys.Feature f) (keys.Toggled u) = (λ h. absurd cc, λ e. absurd cc)
key_tells tells (keys.Kept d) (keys.Crate j) = (λ h. absurd cc, λ e. absurd cc)
key_tells tells (keys.Kept d) (keys.Feature g) = (λ h. absurd cc, λ e. absurd cc)
key_tells tells (keys.Kept d) (keys.Kept x) =
    let p = id_tells tells d.parent.now x.parent.now in
    let c = id_tells tells d.child.now x.child.now in
    let k = kind_tells d.kind x.kind in
    let t = option_tells d.cfg.now x.cfg.now in (
      λ h. (
          let u = then_equal _ _ h in
          let v = then_equal _ _ u.1 in
          let w = then_equal _ _ v.1 in
          rw (p.0 u.0, c.0 v.0, k.0 w.0, t.0 w.1) refl),
      λ e. (
          let same : edge_of_ref d ≡ edge_of_ref x = cc in
          equal_then _ _ (p.1 (ap (λ (y : Edge). y.parent) same)) (equal_then _ _ (c.1 (ap (λ (y : Edge). y.child) same)) (equal_then _ _ (k.1 (ap (λ (y : Edge). y.kind) same)) (t.1 (ap (λ (y : Edge). y.cfg) same))))),
    )
key_tells tells (keys.Kept d) (keys.Toggled u) = (λ h. absurd cc, λ e. absurd cc)
key_tells tells (keys.Toggled t) (keys.Crate j) = (λ h. absurd cc, λ e. absurd cc)
key_tells tells (keys.Toggled t) (keys.Feature g) = (λ h. absurd cc, λ e. absurd cc)
key_tells tells (keys.Toggled t) (keys.Kept x) = (λ h. absurd cc, λ e. absurd cc)
key_tells tells (keys.Toggled t) (keys.Toggled u) =
    let b = id_tells tells t.by.now u.by.now in
    let c = id_tells tells t.krate.now u.krate.now in
    let n = text_tells t.name.now u.name.now in (
      λ h. (
          let v = then_equal _ _ h in
          let w = then_equal _ _ v.1 in
          rw (b.0 v.0, c.0 w.0, n.0 w.1) refl),
      λ e. equal_then _ _ (b.1 cc) (equal_then _ _ (c.1 cc) (n.1 cc)),
    )
