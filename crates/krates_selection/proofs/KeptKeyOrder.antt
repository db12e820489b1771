-- The order of keys: two compare as equal exactly where they are the same fact.
use Rattle.std.proofs.Common.{◌≡◌, ◌↔◌, ℕ, Equal, refl, subst}
use Rattle.std.proofs.lemmas.Cmp.{tied_itself, nat_cmp_total}
use Rattle.std.proofs.lemmas.Map.Lookups.{exact_unsigned}
use Rattle.std.specs.Ordering.{nat_cmp}
use Rattle.krates_selection.specs.KeptFacts.{key_cmp, key_view}
use Rattle.krates_selection.specs.declared.key.KeptFactKey.{KeptFactKey}
use Rattle.krates_selection.specs.declared.key.KeptFactKey.TheVariants as keys
use Rattle.krates_selection.specs.declared.key.FeatureKey.{FeatureKey}
use Rattle.krates_rules.proofs.KeyOrder.{equal_then, kind_tells, option_tells, text_tells, then_equal}

number_tells : (a b : ℕ) → (nat_cmp a b ≡ Equal) ↔ (a ≡ b)
number_tells a b = (λ h. exact_unsigned a b h, λ e. subst (λ c. nat_cmp a c ≡ Equal) e (tied_itself nat_cmp_total a))

feature_tells : (a b : FeatureKey) → (key_cmp (keys.Feature a) (keys.Feature b) ≡ Equal) ↔ ((a.krate ≡ b.krate) × (a.name.now ≡ b.name.now))
feature_tells a b =
    let k = number_tells a.krate b.krate in
    let n = text_tells a.name.now b.name.now in (
      λ h. (let w = then_equal _ _ h in (k.0 w.0, n.0 w.1)),
      λ w. equal_then _ _ (k.1 w.0) (n.1 w.1),
    )

-- keys compare as equal exactly where they are the same fact
pub key_tells : (a b : KeptFactKey) → (key_cmp a b ≡ Equal) ↔ (key_view a ≡ key_view b)
key_tells (keys.Crate k) (keys.Crate j) = let n = number_tells k j in (λ h. rw (n.0 h) refl, λ e. n.1 cc)
key_tells (keys.Crate k) (keys.Feature g) = (λ h. absurd cc, λ e. absurd cc)
key_tells (keys.Crate k) (keys.Kept x) = (λ h. absurd cc, λ e. absurd cc)
key_tells (keys.Crate k) (keys.Toggled p) = (λ h. absurd cc, λ e. absurd cc)
key_tells (keys.Feature f) (keys.Crate j) = (λ h. absurd cc, λ e. absurd cc)
key_tells (keys.Feature f) (keys.Feature g) = let t = feature_tells f g in (λ h. (let w = t.0 h in rw (w.0, w.1) refl), λ e. t.1 (cc, cc))
key_tells (keys.Feature f) (keys.Kept x) = (λ h. absurd cc, λ e. absurd cc)
key_tells (keys.Feature f) (keys.Toggled p) = (λ h. absurd cc, λ e. absurd cc)
key_tells (keys.Kept d) (keys.Crate j) = (λ h. absurd cc, λ e. absurd cc)
key_tells (keys.Kept d) (keys.Feature g) = (λ h. absurd cc, λ e. absurd cc)
key_tells (keys.Kept d) (keys.Kept x) =
    let p = number_tells d.parent x.parent in
    let c = number_tells d.child x.child in
    let k = kind_tells d.kind x.kind in
    let t = option_tells d.cfg.now x.cfg.now in (
      λ h. (
          let u = then_equal _ _ h in
          let v = then_equal _ _ u.1 in
          let w = then_equal _ _ v.1 in
          rw (p.0 u.0, c.0 v.0, k.0 w.0, t.0 w.1) refl),
      λ e. equal_then _ _ (p.1 cc) (equal_then _ _ (c.1 cc) (equal_then _ _ (k.1 cc) (t.1 cc))),
    )
key_tells (keys.Kept d) (keys.Toggled p) = (λ h. absurd cc, λ e. absurd cc)
key_tells (keys.Toggled o) (keys.Crate j) = (λ h. absurd cc, λ e. absurd cc)
key_tells (keys.Toggled o) (keys.Feature g) = (λ h. absurd cc, λ e. absurd cc)
key_tells (keys.Toggled o) (keys.Kept x) = (λ h. absurd cc, λ e. absurd cc)
key_tells (keys.Toggled o) (keys.Toggled p) =
    let b = number_tells o.by p.by in
    let t = feature_tells o.feature p.feature in (
      λ h. (
          let w = then_equal _ _ h in
          let f = t.0 w.1 in
          rw (b.0 w.0, f.0, f.1) refl),
      λ e. equal_then _ _ (b.1 cc) (t.1 (cc, cc)),
    )
