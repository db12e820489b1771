-- The rules row by row: what each of them asks.
use Rattle.std.proofs.Common.{◌≡◌, ◌↔◌, ℕ, [], ◌∷◌, Bool, true, false, inl, inr, refl, sym, subst}
use Rattle.krates_cm.specs.Document.{Text}
use Rattle.krates_derive.specs.Following.{MayKeep, AsksForFeature, TogglesOver, Asks, Toggles}
use Rattle.krates_rules.specs.Facts.{Id, Edge, Crate, Feature, Kept, Toggled}
use Rattle.krates_rules.specs.Features.{HasReference, ListsFeature}
use Rattle.krates_rules.specs.Questions.{questions, Stands}
use Rattle.krates_rules.specs.Resolved.{Resolved}
use Rattle.krates_rules.specs.Roots.{IsRoot}
use Rattle.krates_rules.specs.Rules.{Questions, Rule, root_crate, root_feature, feature_crate, named, asked, toggled_strongly, required, target, declared, by_default, toggled_weakly, toggled_feature}
use Rattle.krates_rules.specs.Setting.{SettingModel}
use Rattle.krates_text.specs.FeatureReference.{simple}

-- two equivalences in a row
pub through : {A B C : Type 0} → A ↔ B → B ↔ C → A ↔ C
through f g = (λ a. g.0 (f.0 a), λ c. f.1 (g.1 c))

pub rooted : (r : Resolved) (s : SettingModel) (n : ℕ) (p : Id) → ((n ≡ 1) × IsRoot r s p × Stands r s p) ↔ Rule (questions r s) n [] (Crate p)
unfolding questions
rooted r s n p = (to, back n)
  where
    to : (n ≡ 1) × IsRoot r s p × Stands r s p → Rule (questions r s) n [] (Crate p)
    to (e, root, stands) = subst (λ k. Rule (questions r s) k [] (Crate p)) (sym e) (root_crate root stands)

    back : (n : ℕ) → Rule (questions r s) n [] (Crate p) → (n ≡ 1) × IsRoot r s p × Stands r s p
    back n (root_crate root stands) = (refl, root, stands)

pub rooted_feature : (r : Resolved) (s : SettingModel) (n : ℕ) (p : Id) (f : Text) → ((n ≡ 1) × IsRoot r s p × Stands r s p × ListsFeature r p f) ↔ Rule (questions r s) n [] (Feature p f)
unfolding questions
rooted_feature r s n p f = (to, back n)
  where
    to : (n ≡ 1) × IsRoot r s p × Stands r s p × ListsFeature r p f → Rule (questions r s) n [] (Feature p f)
    to (e, root, stands, lists) = subst (λ k. Rule (questions r s) k [] (Feature p f)) (sym e) (root_feature root stands lists)

    back : (n : ℕ) → Rule (questions r s) n [] (Feature p f) → (n ≡ 1) × IsRoot r s p × Stands r s p × ListsFeature r p f
    back n (root_feature root stands lists) = (refl, root, stands, lists)

pub owner : (q : Questions) (n : ℕ) (p c : Id) (f : Text) → ((n ≡ 2) × (p ≡ c)) ↔ Rule q n (Feature p f ∷ []) (Crate c)
owner q n p c f = (to, back n c)
  where
    to : (n ≡ 2) × (p ≡ c) → Rule q n (Feature p f ∷ []) (Crate c)
    to (e, same) = subst (λ k. Rule q k (Feature p f ∷ []) (Crate c)) (sym e) (subst (λ i. Rule q 2 (Feature p f ∷ []) (Crate i)) same feature_crate)

    back : (n : ℕ) (c : Id) → Rule q n (Feature p f ∷ []) (Crate c) → (n ≡ 2) × (p ≡ c)
    back n c feature_crate = (refl, refl)

pub named_row : (r : Resolved) (s : SettingModel) (n : ℕ) (p c : Id) (f g : Text) → ((n ≡ 3) × (p ≡ c) × HasReference r p f (simple g) × ListsFeature r p g) ↔ Rule (questions r s) n (Feature p f ∷ []) (Feature c g)
unfolding questions
named_row r s n p c f g = (to, back n c)
  where
    to : (n ≡ 3) × (p ≡ c) × HasReference r p f (simple g) × ListsFeature r p g → Rule (questions r s) n (Feature p f ∷ []) (Feature c g)
    to (e, same, refers, lists) = subst (λ k. Rule (questions r s) k (Feature p f ∷ []) (Feature c g)) (sym e) (subst (λ i. Rule (questions r s) 3 (Feature p f ∷ []) (Feature i g)) same (named refers lists))

    back : (n : ℕ) (c : Id) → Rule (questions r s) n (Feature p f ∷ []) (Feature c g) → (n ≡ 3) × (p ≡ c) × HasReference r p f (simple g) × ListsFeature r p g
    back n c (named refers lists) = (refl, refl, refers, lists)

pub asked_row : (r : Resolved) (s : SettingModel) (n : ℕ) (p : Id) (f : Text) (e : Edge) → ((n ≡ 4) × (p ≡ e.parent) × Asks r s p f e.child × MayKeep r s e true) ↔ Rule (questions r s) n (Feature p f ∷ []) (Kept e)
unfolding questions
asked_row r s n p f e = (to, back n p)
  where
    to : (n ≡ 4) × (p ≡ e.parent) × Asks r s p f e.child × MayKeep r s e true → Rule (questions r s) n (Feature p f ∷ []) (Kept e)
    to (is, same, asks, m) =
        let a = subst (λ i. Asks r s i f e.child) same asks in
        subst (λ k. Rule (questions r s) k (Feature p f ∷ []) (Kept e)) (sym is)
        (subst (λ i. Rule (questions r s) 4 (Feature i f ∷ []) (Kept e)) (sym same)
        (asked {e = e} {f = f} {d = m.dependency} (record { reference = a.reference; dep = a.dep; refers = a.refers; asks = a.asks; referent = a.referent }) (record { wanted = m.wanted; stands = m.stands })))

    back : (n : ℕ) (p : Id) → Rule (questions r s) n (Feature p f ∷ []) (Kept e) → (n ≡ 4) × (p ≡ e.parent) × Asks r s p f e.child × MayKeep r s e true
    back n p (asked {d = d} a o) = (refl, refl, record { reference = a.reference; dep = a.dep; refers = a.refers; asks = a.asks; referent = a.referent }, record { dependency = d; wanted = o.wanted; taken = tt; stands = o.stands })

pub required_row : (r : Resolved) (s : SettingModel) (n : ℕ) (p : Id) (e : Edge) → ((n ≡ 5) × (p ≡ e.parent) × MayKeep r s e false) ↔ Rule (questions r s) n (Crate p ∷ []) (Kept e)
unfolding questions
required_row r s n p e = (to, back n p)
  where
    to : (n ≡ 5) × (p ≡ e.parent) × MayKeep r s e false → Rule (questions r s) n (Crate p ∷ []) (Kept e)
    to (is, same, m) =
        subst (λ k. Rule (questions r s) k (Crate p ∷ []) (Kept e)) (sym is)
        (subst (λ i. Rule (questions r s) 5 (Crate i ∷ []) (Kept e)) (sym same)
        (required {e = e} {d = m.dependency} (record { wanted = m.wanted; stands = m.stands }) m.taken))

    back : (n : ℕ) (p : Id) → Rule (questions r s) n (Crate p ∷ []) (Kept e) → (n ≡ 5) × (p ≡ e.parent) × MayKeep r s e false
    back n p (required {d = d} o h) = (refl, refl, record { dependency = d; wanted = o.wanted; taken = h; stands = o.stands })

pub target_row : (q : Questions) (n : ℕ) (e : Edge) (c : Id) → ((n ≡ 5) × (e.child ≡ c)) ↔ Rule q n (Kept e ∷ []) (Crate c)
target_row q n e c = (to, back n c)
  where
    to : (n ≡ 5) × (e.child ≡ c) → Rule q n (Kept e ∷ []) (Crate c)
    to (is, same) = subst (λ k. Rule q k (Kept e ∷ []) (Crate c)) (sym is) (subst (λ i. Rule q 5 (Kept e ∷ []) (Crate i)) same (target {e = e}))

    back : (n : ℕ) (c : Id) → Rule q n (Kept e ∷ []) (Crate c) → (n ≡ 5) × (e.child ≡ c)
    back n c target = (refl, refl)

pub declared_row : (r : Resolved) (s : SettingModel) (n : ℕ) (e : Edge) (c : Id) (g : Text) → ((n ≡ 6) × (e.child ≡ c) × AsksForFeature r e g × ListsFeature r e.child g) ↔ Rule (questions r s) n (Kept e ∷ []) (Feature c g)
unfolding questions
declared_row r s n e c g = (to, back n c g)
  where
    gives : AsksForFeature r e g → ListsFeature r e.child g → Rule (questions r s) 6 (Kept e ∷ []) (Feature e.child g)
    gives a lists = elim a.asks [
      | inl among ↦ declared {e = e} {d = a.dependency} {g = g} a.declared among lists
      | inr uses ↦ (
          let there = subst (ListsFeature r e.child) uses.1 lists in
          subst (λ h. Rule (questions r s) 6 (Kept e ∷ []) (Feature e.child h)) (sym uses.1) (by_default {e = e} {d = a.dependency} a.declared uses.0 there))
    ]

    to : (n ≡ 6) × (e.child ≡ c) × AsksForFeature r e g × ListsFeature r e.child g → Rule (questions r s) n (Kept e ∷ []) (Feature c g)
    to (is, same, a, lists) = subst (λ k. Rule (questions r s) k (Kept e ∷ []) (Feature c g)) (sym is) (subst (λ i. Rule (questions r s) 6 (Kept e ∷ []) (Feature i g)) same (gives a lists))

    back : (n : ℕ) (c : Id) (g : Text) → Rule (questions r s) n (Kept e ∷ []) (Feature c g) → (n ≡ 6) × (e.child ≡ c) × AsksForFeature r e g × ListsFeature r e.child g
    back n c g (declared {d = d} w among lists) = (refl, refl, record { dependency = d; declared = w; asks = inl among }, lists)
    back n c g (by_default {d = d} w uses lists) = (refl, refl, record { dependency = d; declared = w; asks = inr (uses, refl) }, lists)

pub enabled_row : (q : Questions) (n : ℕ) (p c d : Id) (g h : Text) → ((n ≡ 7) × (c ≡ d) × (g ≡ h)) ↔ Rule q n (Toggled p c g ∷ []) (Feature d h)
enabled_row q n p c d g h = (to, back n d h)
  where
    to : (n ≡ 7) × (c ≡ d) × (g ≡ h) → Rule q n (Toggled p c g ∷ []) (Feature d h)
    to (is, same, name) = subst (λ k. Rule q k (Toggled p c g ∷ []) (Feature d h)) (sym is) (subst (λ i. Rule q 7 (Toggled p c g ∷ []) (Feature i h)) same (subst (λ t. Rule q 7 (Toggled p c g ∷ []) (Feature c t)) name toggled_feature))

    back : (n : ℕ) (d : Id) (h : Text) → Rule q n (Toggled p c g ∷ []) (Feature d h) → (n ≡ 7) × (c ≡ d) × (g ≡ h)
    back n d h toggled_feature = (refl, refl, refl)

-- the number of the rule for weak references, or for strong ones
abbrev pub number_of : Bool → ℕ
number_of true = 7
number_of false = 4

pub toggled_row : (r : Resolved) (s : SettingModel) (weakly : Bool) (p : Id) (f : Text) (e : Edge) (a c : Id) (g : Text)
    → TogglesOver r s weakly p f e a c g ↔ Rule (questions r s) (number_of weakly) (Feature p f ∷ Kept e ∷ []) (Toggled a c g)
unfolding questions
toggled_row r s weakly p f e a c g = (to, back weakly (number_of weakly) refl p a c)
  where
    gives : (weakly : Bool) → Toggles r s e.parent weakly f e.child g → ListsFeature r e.child g → Rule (questions r s) (number_of weakly) (Feature e.parent f ∷ Kept e ∷ []) (Toggled e.parent e.child g)
    gives true t lists = toggled_weakly {e = e} {f = f} {g = g} {c = t.dep} t.refers t.referent lists
    gives false t lists = toggled_strongly {e = e} {f = f} {g = g} {c = t.dep} t.refers t.referent lists

    to : TogglesOver r s weakly p f e a c g → Rule (questions r s) (number_of weakly) (Feature p f ∷ Kept e ∷ []) (Toggled a c g)
    to (same, by, child, t, lists) =
        let toggles = subst (λ i. Toggles r s i weakly f e.child g) same (subst (λ i. Toggles r s p weakly f i g) (sym child) t) in
        subst (λ i. Rule (questions r s) (number_of weakly) (Feature i f ∷ Kept e ∷ []) (Toggled a c g)) (sym same)
        (subst (λ i. Rule (questions r s) (number_of weakly) (Feature e.parent f ∷ Kept e ∷ []) (Toggled i c g)) by
        (subst (λ i. Rule (questions r s) (number_of weakly) (Feature e.parent f ∷ Kept e ∷ []) (Toggled e.parent i g)) child
        (gives weakly toggles (subst (λ i. ListsFeature r i g) (sym child) lists))))

    back : (weakly : Bool) (n : ℕ) → n ≡ number_of weakly → (p a c : Id) → Rule (questions r s) n (Feature p f ∷ Kept e ∷ []) (Toggled a c g) → TogglesOver r s weakly p f e a c g
    back true n is p a c (toggled_weakly {c = dep} refers referent lists) = (refl, refl, refl, record { dep = dep; refers = refers; referent = referent }, lists)
    back true n is p a c (toggled_strongly refers referent lists) = absurd cc
    back false n is p a c (toggled_weakly refers referent lists) = absurd cc
    back false n is p a c (toggled_strongly {c = dep} refers referent lists) = (refl, refl, refl, record { dep = dep; refers = refers; referent = referent }, lists)
