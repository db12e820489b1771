-- The crates of a derivable fact are derivable, too.
use Rattle.std.proofs.Common.{inl, inr, ℕ, List, [], ◌∷◌, refl, sym, subst}
use Rattle.std.specs.Bool.{⊤}
use Rattle.krates_cm.specs.Document.{Text}
use Rattle.krates_rules.specs.Derivation.{Among, Derivable, follows}
use Rattle.krates_rules.specs.Facts.{Id, Edge, Fact, Crate, Feature, Kept, Toggled}
use Rattle.krates_rules.specs.Rules.{Questions, Rule, feature_crate, asked, toggled_strongly, required, target, toggled_weakly}

one : (q : Questions) (f : Fact) → Derivable q f → (g : Fact) → Among g (f ∷ []) → Derivable q g
one q f d g (inl e) = subst (λ z. Derivable q z) (sym e) d
one q f d g (inr m) = absurd m

pub crate_of_feature : (q : Questions) (p : Id) (f : Text) → Derivable q (Feature p f) → Derivable q (Crate p)
crate_of_feature q p f d = follows (feature_crate {p = p} {f = f}) (one q (Feature p f) d)

pub child_kept : (q : Questions) (e : Edge) → Derivable q (Kept e) → Derivable q (Crate e.child)
child_kept q e d = follows (target {e = e}) (one q (Kept e) d)

-- the crate with the dependency is kept, and that to which it leads stands
abbrev ParentFrom : Questions → Fact → Type 0
ParentFrom q (Kept e) = Derivable q (Crate e.parent) × q.Stands e.child
ParentFrom q _ = ⊤

parent_from : (q : Questions) (n : ℕ) (ps : List Fact) (f : Fact) → Rule q n ps f → ((g : Fact) → Among g ps → Derivable q g) → ParentFrom q f
parent_from q _ _ _ (asked {e} {f} {d} x o) ds = (crate_of_feature q e.parent f (ds (Feature e.parent f) (inl refl)), o.stands)
parent_from q _ _ _ (required {e} {d} o h) ds = (ds (Crate e.parent) (inl refl), o.stands)
parent_from q _ _ _ _ ds = tt

pub parent_kept : (q : Questions) (e : Edge) → Derivable q (Kept e) → Derivable q (Crate e.parent) × q.Stands e.child
parent_kept q e (follows r ds) = parent_from q _ _ (Kept e) r ds

-- a feature is toggled through a kept edge
abbrev ToggledFrom : Questions → Fact → Type 0
ToggledFrom q (Toggled p c g) = Derivable q (Crate p) × Derivable q (Crate c)
ToggledFrom q _ = ⊤

toggled_from : (q : Questions) (n : ℕ) (ps : List Fact) (f : Fact) → Rule q n ps f → ((g : Fact) → Among g ps → Derivable q g) → ToggledFrom q f
toggled_from q _ _ _ (toggled_strongly {e} {f} {g} {c} r t l) ds = (let k = ds (Kept e) (inr (inl refl)) in ((parent_kept q e k).0, child_kept q e k))
toggled_from q _ _ _ (toggled_weakly {e} {f} {g} {c} r t l) ds = (let k = ds (Kept e) (inr (inl refl)) in ((parent_kept q e k).0, child_kept q e k))
toggled_from q _ _ _ _ ds = tt

pub toggled_kept : (q : Questions) (p c : Id) (g : Text) → Derivable q (Toggled p c g) → Derivable q (Crate p) × Derivable q (Crate c)
toggled_kept q p c g (follows r ds) = toggled_from q _ _ (Toggled p c g) r ds
