-- The document has what a derivable fact speaks of.
use Rattle.std.proofs.Common.{ℕ, List, refl, inl, inr}
use Rattle.krates_cm.specs.Document.{DependencyModel, PackageModel, Text}
use Rattle.krates_rules.specs.Derivation.{Among}
use Rattle.krates_rules.specs.Facts.{Crate, Edge, Fact, Feature, Id, Kept, Toggled}
use Rattle.krates_rules.specs.Features.{ListsFeature}
use Rattle.krates_rules.specs.Questions.{Stands, questions}
use Rattle.krates_rules.specs.Resolved.{Resolved, resolved}
use Rattle.krates_rules.specs.Rules.{Questions, Rule, root_crate, root_feature, lost_root_package, lost_root_node, feature_crate, named, lost_named, asked, toggled_strongly, lost_asked_package, lost_asked_node, lost_toggled_strongly, required, target, lost_undeclared, lost_required_package, lost_required_node, declared, by_default, lost_declared, toggled_weakly, toggled_feature, lost_toggled_weakly}
use Rattle.krates_rules.specs.Setting.{SettingModel}
use Rattle.krates_verdict.specs.NamedFact.{HasSpoken, IsAbout, IsListed, IsOfPackage}
use Rattle.krates_verdict.specs.Subject.{SubjectModel}
use Rattle.krates_verdict.specs.Truth.{IsDerivable}
use Rattle.krates_rules.proofs.DerivationLaws.{closed_under}
use Rattle.krates_rules.proofs.Elements.{contains_image}

-- what the answers to the rules' questions say of a document
record AreOf (q : Questions) (r : Resolved) : Type 0 where
  stands : (i : Id) → q.Stands i → IsOfPackage r.metadata i
  lists : (i : Id) (f : Text) → q.Lists i f → ListsFeature r i f
  wanted : (e : Edge) (d : DependencyModel) → q.Wanted e d → IsListed r e

by_rule : (q : Questions) (r : Resolved) → AreOf q r → {n : ℕ} {ps : List Fact} {f : Fact} → Rule q n ps f → ((g : Fact) → Among g ps → HasSpoken r g) → HasSpoken r f
by_rule q r of (root_crate root s) h = of.stands _ s
by_rule q r of (root_feature root s n) h = (of.stands _ s, of.lists _ _ n)
by_rule q r of (lost_root_package root s) h = tt
by_rule q r of (lost_root_node root s) h = tt
by_rule q r of (feature_crate {p} {f}) h = (h (Feature p f) (inl refl)).0
by_rule q r of (named {p} {f} x n) h = ((h (Feature p f) (inl refl)).0, of.lists _ _ n)
by_rule q r of (lost_named x n) h = tt
by_rule q r of (asked {e} {f} {d} x o) h = ((h (Feature e.parent f) (inl refl)).0, (of.stands _ o.stands, of.wanted e d o.wanted))
by_rule q r of (toggled_strongly {e} {f} x y n) h = ((h (Feature e.parent f) (inl refl)).0, ((h (Kept e) (inr (inl refl))).1.0, of.lists _ _ n))
by_rule q r of (lost_asked_package y x s) h = tt
by_rule q r of (lost_asked_node y x s) h = tt
by_rule q r of (lost_toggled_strongly x y n) h = tt
by_rule q r of (required {e} {d} o x) h = (h (Crate e.parent) (inl refl), (of.stands _ o.stands, of.wanted e d o.wanted))
by_rule q r of (target {e}) h = (h (Kept e) (inl refl)).1.0
by_rule q r of (lost_undeclared l) h = tt
by_rule q r of (lost_required_package x y s) h = tt
by_rule q r of (lost_required_node x y s) h = tt
by_rule q r of (declared {e} x c n) h = ((h (Kept e) (inl refl)).1.0, of.lists _ _ n)
by_rule q r of (by_default {e} x u n) h = ((h (Kept e) (inl refl)).1.0, of.lists _ _ n)
by_rule q r of (lost_declared x c n) h = tt
by_rule q r of (toggled_weakly {e} {f} x y n) h = ((h (Feature e.parent f) (inl refl)).0, ((h (Kept e) (inr (inl refl))).1.0, of.lists _ _ n))
by_rule q r of (toggled_feature {p} {c} {g}) h = let t = h (Toggled p c g) (inl refl) in (t.1.0, t.1.1)
by_rule q r of (lost_toggled_weakly x y n) h = tt

-- a crate that stands has a package
has_package : (r : Resolved) (s : SettingModel) (i : Id) → Stands r s i → IsOfPackage r.metadata i
has_package r s i stands =
    let has = stands.included.has_package in
    let pkg = stands.included.pkg in
    (pkg.id, contains_image (λ (p : PackageModel). p.id) r.metadata.packages pkg has.among, has.id)

are_of : (r : Resolved) (s : SettingModel) → AreOf (questions r s) r
unfolding questions
are_of r s = record {
  stands = has_package r s;
  lists = λ i f lists. lists;
  wanted = λ e d wanted. (wanted.declared.declares.dep, wanted.declared.declares.lists);
}

-- so the document has what derivable facts speak of
pub is_about : (s : SubjectModel) (f : Fact) → IsDerivable s f → IsAbout s.metadata f
is_about s f h =
    let there = h.holds in
    let r = resolved s.metadata there.graph in record {
      graph = there.graph;
      has_graph = there.has_graph;
      holds = closed_under (questions r s.setting) (HasSpoken r) (λ n ps g rule before. by_rule (questions r s.setting) r (are_of r s.setting) rule before) there.holds;
    }
