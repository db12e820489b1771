-- What a text asks for, as the one reference that it is.
use Rattle.std.proofs.Common.{◌≡◌, ◌↔◌, Bool, Bor, IsTrue, true, false, refl, sym, ◌∙◌, subst}
use Rattle.krates_cm.specs.Document.{Text}
use Rattle.krates_derive.specs.Following.{AsksBy, IsToggleOf, TogglesBy, toggling}
use Rattle.krates_rules.specs.Facts.{Id}
use Rattle.krates_rules.specs.Referent.{IsReferent}
use Rattle.krates_rules.specs.Demands.{Demands}
use Rattle.krates_rules.specs.Resolved.{Resolved}
use Rattle.krates_rules.specs.Setting.{SettingModel}
use Rattle.krates_text.specs.FeatureReference.{Reference, weak, strong, simple, IsReference, HasOneReading, reference_of}
use Rattle.krates_text.specs.declared.features.Feature.{Feature}
use Rattle.krates_text.specs.declared.features.Feature.TheVariants as parsed

-- a text is only one reference
pub one_form : {text : Text} → HasOneReading text → (a b : Reference) → IsReference text a → IsReference text b → a ≡ b
one_form h a b x y = h.only a x ∙ sym (h.only b y)

-- a text that is another reference isn't a simple one
pub not_simple : {text : Text} → HasOneReading text → (a : Reference) (name : Text) → IsReference text a → ((n : Text) → a ≡ simple n → ⊥) → IsReference text (simple name) → ⊥
not_simple h a name x other y = other name (one_form h a (simple name) x y)

-- a reference asks for what it names
pub asks_told : {text : Text} → HasOneReading text → (r : Resolved) (s : SettingModel) (p child : Id) (a : Reference) (dep : Text) (b : Bool) → IsReference text a → Demands a dep → ((other : Text) → Demands a other → other ≡ dep)
    → (IsTrue b ↔ IsReferent r s.all_named p dep child) → IsTrue b ↔ AsksBy r s p text child
asks_told {text} h r s p child a dep b x asks only told = (
  λ t. record { reference = a; is = x; dep = dep; asks = asks; referent = told.0 t },
  λ y. told.1 (
      let same : y.reference ≡ a = one_form h y.reference a y.is x in
      subst (λ d. IsReferent r s.all_named p d child) (only y.dep (subst (λ z. Demands z y.dep) same y.asks)) y.referent),
)

-- a reference that demands nothing asks for nothing
pub asks_nothing : {text : Text} → HasOneReading text → (r : Resolved) (s : SettingModel) (p child : Id) (a : Reference) → IsReference text a → ((dep : Text) → Demands a dep → ⊥) → AsksBy r s p text child → ⊥
asks_nothing {text} h r s p child a x none y =
    let same : y.reference ≡ a = one_form h y.reference a y.is x in
    none y.dep (subst (λ z. Demands z y.dep) same y.asks)

-- a reference to a feature of a dependency is one in its form and its names
pub same_toggling : (form other : Bool) (dep d g n : Text) → toggling form dep g ≡ toggling other d n → (form ≡ other) × (dep ≡ d) × (g ≡ n)
same_toggling true true dep d g n e = let same : weak dep g ≡ weak d n = e in (refl, cc, cc)
same_toggling true false dep d g n e = absurd (let same : weak dep g ≡ strong d n = e in cc)
same_toggling false true dep d g n e = absurd (let same : strong dep g ≡ weak d n = e in cc)
same_toggling false false dep d g n e = let same : strong dep g ≡ strong d n = e in (refl, cc, cc)

-- a reference of the right form toggles what it names
pub toggling_told : {text : Text} → HasOneReading text → (r : Resolved) (s : SettingModel) (p child : Id) (weakly : Bool) (dep g name : Text) (b : Bool) → IsReference text (toggling weakly dep g)
    → (IsTrue b ↔ IsToggleOf r s p dep g child name) → IsTrue b ↔ TogglesBy r s p weakly text child name
toggling_told {text} h r s p child weakly dep g name b x told = (
  λ t. (let w = told.0 t in record { dep = dep; is = subst (λ n. IsReference text (toggling weakly dep n)) w.0 x; referent = w.1 }),
  λ y. told.1 (
      let same = same_toggling weakly weakly dep y.dep g name (one_form h _ _ x y.is) in
      (same.2, subst (λ d. IsReferent r s.all_named p d child) (sym same.1) y.referent)),
)

-- ---- references that are neither

pub never_simple : (x : Feature) → ((n : Bor Text) → x ≡ parsed.Simple n → ⊥) → (n : Text) → reference_of x ≡ simple n → ⊥
never_simple (parsed.Krate n) other m e = absurd cc
never_simple (parsed.Weak n g) other m e = absurd cc
never_simple (parsed.Strong n g) other m e = absurd cc
never_simple (parsed.Simple n) other m e = other n refl

pub never_demands : (x : Feature) → ((n : Bor Text) → x ≡ parsed.Krate n → ⊥) → ((n g : Bor Text) → x ≡ parsed.Strong n g → ⊥) → (dep : Text) → Demands (reference_of x) dep → ⊥
never_demands (parsed.Krate n) not_krate not_strong dep d = not_krate n refl
never_demands (parsed.Weak n g) not_krate not_strong dep d = d
never_demands (parsed.Strong n g) not_krate not_strong dep d = not_strong n g refl
never_demands (parsed.Simple n) not_krate not_strong dep d = d

pub never_toggling : (x : Feature) → ((n g : Bor Text) → x ≡ parsed.Weak n g → ⊥) → ((n g : Bor Text) → x ≡ parsed.Strong n g → ⊥) → (weakly : Bool) (dep g : Text) → reference_of x ≡ toggling weakly dep g → ⊥
never_toggling (parsed.Krate n) not_weak not_strong true dep g e = absurd cc
never_toggling (parsed.Krate n) not_weak not_strong false dep g e = absurd cc
never_toggling (parsed.Weak n h) not_weak not_strong weakly dep g e = not_weak n h refl
never_toggling (parsed.Strong n h) not_weak not_strong weakly dep g e = not_strong n h refl
never_toggling (parsed.Simple n) not_weak not_strong true dep g e = absurd cc
never_toggling (parsed.Simple n) not_weak not_strong false dep g e = absurd cc
