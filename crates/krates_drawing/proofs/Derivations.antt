-- Laws of derivations that hold for any questions.
use Rattle.std.proofs.Common.{◌≡◌, inl, inr, ℕ, false, List, [], ◌∷◌, refl, sym, subst}
use Rattle.std.specs.Bool.{⊤}
use Rattle.krates_cm.specs.Document.{Text, DependencyModel}
use Rattle.krates_rules.specs.Derivation.{Among, Derivable, follows}
use Rattle.krates_rules.specs.Facts.{Id, Edge, Fact, Crate, Feature, Kept, Toggled, Lost}
use Rattle.krates_rules.specs.Rules.{Questions, Open, Rule, root_crate, root_feature, feature_crate, named, asked, toggled_strongly, required, target, declared, by_default, toggled_weakly, toggled_feature}

-- ---- premises

pub nothing : (q : Questions) (g : Fact) → Among g [] → Derivable q g
nothing q g m = absurd m

pub one : (q : Questions) (f : Fact) → Derivable q f → (g : Fact) → Among g (f ∷ []) → Derivable q g
one q f d g (inl e) = subst (λ z. Derivable q z) (sym e) d
one q f d g (inr m) = absurd m

pub two : (q : Questions) (f h : Fact) → Derivable q f → Derivable q h → (g : Fact) → Among g (f ∷ h ∷ []) → Derivable q g
two q f h d k g (inl e) = subst (λ z. Derivable q z) (sym e) d
two q f h d k g (inr m) = one q h k g m

-- ---- induction

-- a property passes from the premises of each rule to its conclusion
abbrev pub IsClosedUnder : Questions → (Fact → Type 0) → Type 0
IsClosedUnder q P = (rule : ℕ) (premises : List Fact) (f : Fact) → Rule q rule premises f → ((g : Fact) → Among g premises → P g) → P f

-- such a property holds of every derivable fact
pub closed_under : (q : Questions) (P : Fact → Type 0) → IsClosedUnder q P → (f : Fact) → Derivable q f → P f
closed_under q P c _ (follows r ds) = c _ _ _ r (λ g m. closed_under q P c g (ds g m))

-- ---- what a fact is derived from

pub crate_of_feature : (q : Questions) (p : Id) (f : Text) → Derivable q (Feature p f) → Derivable q (Crate p)
crate_of_feature q p f d = follows (feature_crate {p = p} {f = f}) (one q (Feature p f) d)

pub child_kept : (q : Questions) (e : Edge) → Derivable q (Kept e) → Derivable q (Crate e.child)
child_kept q e d = follows (target {e = e}) (one q (Kept e) d)

-- an edge is kept because its parent is, and because it is open
pub record KeptBy (q : Questions) (e : Edge) : Type 0 where
  pub dep : DependencyModel
  pub opened : Open q e dep
  pub parent : Derivable q (Crate e.parent)

abbrev KeptFrom : Questions → Fact → Type 0
KeptFrom q (Kept e) = KeptBy q e
KeptFrom q _ = ⊤

kept_from : (q : Questions) (n : ℕ) (ps : List Fact) (f : Fact) → Rule q n ps f → ((g : Fact) → Among g ps → Derivable q g) → KeptFrom q f
kept_from q _ _ _ (asked {e} {f} {d} x o) ds = record { dep = d; opened = o; parent = crate_of_feature q e.parent f (ds (Feature e.parent f) (inl refl)) }
kept_from q _ _ _ (required {e} {d} o h) ds = record { dep = d; opened = o; parent = ds (Crate e.parent) (inl refl) }
kept_from q _ _ _ _ ds = tt

pub kept_by : (q : Questions) (e : Edge) → Derivable q (Kept e) → KeptBy q e
kept_by q e (follows r ds) = kept_from q _ _ (Kept e) r ds

-- if no feature is enabled, an edge is kept because its parent needs it
pub record NeededBy (q : Questions) (e : Edge) : Type 0 where
  pub dep : DependencyModel
  pub opened : Open q e dep
  pub needed : dep.optional ≡ false

abbrev NeededFrom : Questions → Fact → Type 0
NeededFrom q (Kept e) = NeededBy q e
NeededFrom q _ = ⊤

needed_from : (q : Questions) (n : ℕ) (ps : List Fact) (f : Fact) → ((p : Id) (g : Text) → Derivable q (Feature p g) → ⊥) → Rule q n ps f → ((g : Fact) → Among g ps → Derivable q g) → NeededFrom q f
needed_from q _ _ _ none (asked {e} {f} {d} x o) ds = absurd (none e.parent f (ds (Feature e.parent f) (inl refl)))
needed_from q _ _ _ none (required {e} {d} o h) ds = record { dep = d; opened = o; needed = h }
needed_from q _ _ _ none _ ds = tt

pub needed_by : (q : Questions) (e : Edge) → ((p : Id) (g : Text) → Derivable q (Feature p g) → ⊥) → Derivable q (Kept e) → NeededBy q e
needed_by q e none (follows r ds) = needed_from q _ _ (Kept e) none r ds

-- a feature is toggled over a kept edge
pub record ToggledBy (q : Questions) (p c : Id) : Type 0 where
  pub edge : Edge
  pub kept : Derivable q (Kept edge)
  pub parent : edge.parent ≡ p
  pub child : edge.child ≡ c

abbrev ToggledFrom : Questions → Fact → Type 0
ToggledFrom q (Toggled p c g) = ToggledBy q p c
ToggledFrom q _ = ⊤

toggled_from : (q : Questions) (n : ℕ) (ps : List Fact) (f : Fact) → Rule q n ps f → ((g : Fact) → Among g ps → Derivable q g) → ToggledFrom q f
toggled_from q _ _ _ (toggled_strongly {e} {f} {g} {c} r t l) ds = record { edge = e; kept = ds (Kept e) (inr (inl refl)); parent = refl; child = refl }
toggled_from q _ _ _ (toggled_weakly {e} {f} {g} {c} r t l) ds = record { edge = e; kept = ds (Kept e) (inr (inl refl)); parent = refl; child = refl }
toggled_from q _ _ _ _ ds = tt

pub toggled_by : (q : Questions) (p c : Id) (g : Text) → Derivable q (Toggled p c g) → ToggledBy q p c
toggled_by q p c g (follows r ds) = toggled_from q _ _ (Toggled p c g) r ds

-- ---- a kept crate has a package and a node

abbrev StandsFor : Questions → Fact → Type 0
StandsFor q (Crate p) = q.Stands p
StandsFor q (Feature p f) = q.Stands p
StandsFor q (Kept e) = q.Stands e.child
StandsFor q (Toggled p c g) = q.Stands c
StandsFor q (Lost x) = ⊤

stands_for : (q : Questions) → IsClosedUnder q (StandsFor q)
stands_for q _ _ _ (root_crate r s) ps = s
stands_for q _ _ _ (root_feature r s l) ps = s
stands_for q _ _ _ (feature_crate {p} {f}) ps = ps (Feature p f) (inl refl)
stands_for q _ _ _ (named {p} {f} {g} r l) ps = ps (Feature p f) (inl refl)
stands_for q _ _ _ (asked x o) ps = o.stands
stands_for q _ _ _ (toggled_strongly {e} {f} {g} {c} r t l) ps = ps (Kept e) (inr (inl refl))
stands_for q _ _ _ (required o h) ps = o.stands
stands_for q _ _ _ (target {e}) ps = ps (Kept e) (inl refl)
stands_for q _ _ _ (declared {e} {d} {g} x c l) ps = ps (Kept e) (inl refl)
stands_for q _ _ _ (by_default {e} {d} x u l) ps = ps (Kept e) (inl refl)
stands_for q _ _ _ (toggled_weakly {e} {f} {g} {c} r t l) ps = ps (Kept e) (inr (inl refl))
stands_for q _ _ _ (toggled_feature {p} {c} {g}) ps = ps (Toggled p c g) (inl refl)
stands_for q _ _ _ _ ps = tt

pub kept_stands : (q : Questions) (p : Id) → Derivable q (Crate p) → q.Stands p
kept_stands q p d = closed_under q (StandsFor q) (stands_for q) (Crate p) d
