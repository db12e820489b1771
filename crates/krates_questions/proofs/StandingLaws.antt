-- Each derivable crate has a package and a node, for any questions.
use Rattle.std.proofs.Common.{ℕ, List, refl, inl, inr}
use Rattle.std.specs.Prelude.{⊤}
use Rattle.krates_rules.specs.Derivation.{Among, Derivable, follows}
use Rattle.krates_rules.specs.Facts.{Fact, Crate, Feature, Kept, Toggled, Lost}
use Rattle.krates_rules.specs.Rules.{Questions, Rule, root_crate, root_feature, lost_root_package, lost_root_node, feature_crate, named, lost_named, asked, toggled_strongly, lost_asked_package, lost_asked_node, lost_toggled_strongly, required, target, lost_undeclared, lost_required_package, lost_required_node, declared, by_default, lost_declared, toggled_weakly, toggled_feature, lost_toggled_weakly}

-- the crate of the fact stands
abbrev pub HasStanding : Questions → Fact → Type 0
HasStanding q (Crate p) = q.Stands p
HasStanding q (Feature p f) = q.Stands p
HasStanding q (Kept e) = q.Stands e.child
HasStanding q (Toggled p c g) = q.Stands c
HasStanding q (Lost what) = ⊤

by_rule : (q : Questions) {n : ℕ} {ps : List Fact} {f : Fact} → Rule q n ps f → ((g : Fact) → Among g ps → HasStanding q g) → HasStanding q f
by_rule q (root_crate r s) h = s
by_rule q (root_feature r s n) h = s
by_rule q (lost_root_package r s) h = tt
by_rule q (lost_root_node r s) h = tt
by_rule q (feature_crate {p} {f}) h = h (Feature p f) (inl refl)
by_rule q (named {p} {f} r n) h = h (Feature p f) (inl refl)
by_rule q (lost_named r n) h = tt
by_rule q (asked x o) h = o.stands
by_rule q (toggled_strongly {e} r x n) h = h (Kept e) (inr (inl refl))
by_rule q (lost_asked_package y x s) h = tt
by_rule q (lost_asked_node y x s) h = tt
by_rule q (lost_toggled_strongly r x n) h = tt
by_rule q (required o x) h = o.stands
by_rule q (target {e}) h = h (Kept e) (inl refl)
by_rule q (lost_undeclared l) h = tt
by_rule q (lost_required_package x y s) h = tt
by_rule q (lost_required_node x y s) h = tt
by_rule q (declared {e} x c n) h = h (Kept e) (inl refl)
by_rule q (by_default {e} x u n) h = h (Kept e) (inl refl)
by_rule q (lost_declared x c n) h = tt
by_rule q (toggled_weakly {e} r x n) h = h (Kept e) (inr (inl refl))
by_rule q (toggled_feature {p} {c} {g}) h = h (Toggled p c g) (inl refl)
by_rule q (lost_toggled_weakly r x n) h = tt

pub derivable_stands : (q : Questions) {f : Fact} → Derivable q f → HasStanding q f
derivable_stands q (follows r ds) = by_rule q r (λ g m. derivable_stands q (ds g m))
