-- Laws of derivations that hold for any questions.
use Rattle.std.proofs.Common.{ℕ, List, Contains}
use Rattle.krates_cm.specs.Document.{Text, DependencyModel}
use Rattle.krates_rules.specs.Facts.{Id, Edge, Fact}
use Rattle.krates_text.specs.FeatureReference.{Reference}
use Rattle.krates_rules.specs.Rules.{Questions, Open, IsAskedFor, Rule, root_crate, root_feature, lost_root_package, lost_root_node, feature_crate, named, lost_named, asked, toggled_strongly, lost_asked_package, lost_asked_node, lost_toggled_strongly, required, target, lost_undeclared, lost_required_package, lost_required_node, declared, by_default, lost_declared, toggled_weakly, toggled_feature, lost_toggled_weakly}
use Rattle.krates_rules.specs.Derivation.{Among, Derivable, follows, IsClosed}

-- the second answers yes wherever the first does
pub record Within (a b : Questions) : Type 0 where
  pub root : (p : Id) → a.Root p → b.Root p
  pub stands : (p : Id) → a.Stands p → b.Stands p
  pub no_package : (p : Id) → a.NoPackage p → b.NoPackage p
  pub no_node : (p : Id) → a.LacksNode p → b.LacksNode p
  pub lists : (p : Id) (f : Text) → a.Lists p f → b.Lists p f
  pub lacks : (p : Id) (f : Text) → a.Lacks p f → b.Lacks p f
  pub refers : (p : Id) (f : Text) (r : Reference) → a.Refers p f r → b.Refers p f r
  pub referent : (p : Id) (dep : Text) (c : Id) → a.Referent p dep c → b.Referent p dep c
  pub declared : (e : Edge) (d : DependencyModel) → a.Declared e d → b.Declared e d
  pub wanted : (e : Edge) (d : DependencyModel) → a.Wanted e d → b.Wanted e d
  pub loose : (e : Edge) → a.Loose e → b.Loose e

open_within : {a b : Questions} → Within a b → {e : Edge} {d : DependencyModel} → Open a e d → Open b e d
open_within w o = record { wanted = w.wanted _ _ o.wanted; stands = w.stands _ o.stands }

asked_within : {a b : Questions} → Within a b → {f : Text} {e : Edge} → IsAskedFor a f e → IsAskedFor b f e
asked_within w x = record { reference = x.reference; dep = x.dep; refers = w.refers _ _ _ x.refers; asks = x.asks; referent = w.referent _ _ _ x.referent }

rule_within : {a b : Questions} → Within a b → {n : ℕ} {ps : List Fact} {f : Fact} → Rule a n ps f → Rule b n ps f
rule_within w (root_crate r s) = root_crate (w.root _ r) (w.stands _ s)
rule_within w (root_feature r s n) = root_feature (w.root _ r) (w.stands _ s) (w.lists _ _ n)
rule_within w (lost_root_package r s) = lost_root_package (w.root _ r) (w.no_package _ s)
rule_within w (lost_root_node r s) = lost_root_node (w.root _ r) (w.no_node _ s)
rule_within w feature_crate = feature_crate
rule_within w (named r n) = named (w.refers _ _ _ r) (w.lists _ _ n)
rule_within w (lost_named r n) = lost_named (w.refers _ _ _ r) (w.lacks _ _ n)
rule_within w (asked {e} {f} {d} x o) = asked {e = e} {f = f} {d = d} (asked_within w x) (open_within w o)
rule_within w (toggled_strongly {e} {f} {g} {c} r q n) = toggled_strongly {e = e} {f = f} {g = g} {c = c} (w.refers _ _ _ r) (w.referent _ _ _ q) (w.lists _ _ n)
rule_within w (lost_asked_package {e} {f} {d} y x s) = lost_asked_package {e = e} {f = f} {d = d} (asked_within w y) (w.wanted _ _ x) (w.no_package _ s)
rule_within w (lost_asked_node {e} {f} {d} y x s) = lost_asked_node {e = e} {f = f} {d = d} (asked_within w y) (w.wanted _ _ x) (w.no_node _ s)
rule_within w (lost_toggled_strongly {e} {f} {g} {c} r q n) = lost_toggled_strongly {e = e} {f = f} {g = g} {c = c} (w.refers _ _ _ r) (w.referent _ _ _ q) (w.lacks _ _ n)
rule_within w (required {e} {d} o h) = required {e = e} {d = d} (open_within w o) h
rule_within w (target {e}) = target {e = e}
rule_within w (lost_undeclared {e} l) = lost_undeclared {e = e} (w.loose _ l)
rule_within w (lost_required_package {e} {d} x h s) = lost_required_package {e = e} {d = d} (w.wanted _ _ x) h (w.no_package _ s)
rule_within w (lost_required_node {e} {d} x h s) = lost_required_node {e = e} {d = d} (w.wanted _ _ x) h (w.no_node _ s)
rule_within w (declared {e} {d} {g} x c n) = declared {e = e} {d = d} {g = g} (w.declared _ _ x) c (w.lists _ _ n)
rule_within w (by_default {e} {d} x u n) = by_default {e = e} {d = d} (w.declared _ _ x) u (w.lists _ _ n)
rule_within w (lost_declared {e} {d} {g} x c n) = lost_declared {e = e} {d = d} {g = g} (w.declared _ _ x) c (w.lacks _ _ n)
rule_within w (toggled_weakly {e} {f} {g} {c} r q n) = toggled_weakly {e = e} {f = f} {g = g} {c = c} (w.refers _ _ _ r) (w.referent _ _ _ q) (w.lists _ _ n)
rule_within w toggled_feature = toggled_feature
rule_within w (lost_toggled_weakly {e} {f} {g} {c} r q n) = lost_toggled_weakly {e = e} {f = f} {g = g} {c = c} (w.refers _ _ _ r) (w.referent _ _ _ q) (w.lacks _ _ n)

-- with more yeses more is derivable, the lost facts too
pub derivable_within : {a b : Questions} → Within a b → {f : Fact} → Derivable a f → Derivable b f
derivable_within w (follows r ds) = follows (rule_within w r) (λ g m. derivable_within w (ds g m))

-- a property passes from the premises of each rule to its conclusion
abbrev pub IsClosedUnder : Questions → (Fact → Type 0) → Type 0
IsClosedUnder q P = (rule : ℕ) (premises : List Fact) (f : Fact) → Rule q rule premises f → ((g : Fact) → Among g premises → P g) → P f

-- such a property holds of every derivable fact
pub closed_under : (q : Questions) (P : Fact → Type 0) → IsClosedUnder q P → {f : Fact} → Derivable q f → P f
closed_under q P c (follows r ds) = c _ _ _ r (λ g m. closed_under q P c (ds g m))

-- a closed list has every derivable fact
pub closed_has_all : (q : Questions) (fs : List Fact) → IsClosed q fs → {f : Fact} → Derivable q f → Contains fs f
closed_has_all q fs c d = closed_under q (Contains fs) c d
