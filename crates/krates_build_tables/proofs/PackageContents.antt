-- What the one package of a crate has.
use Rattle.std.proofs.Common.{◌≡◌, ◌≢◌, ◌↔◌, Bool, true, IsTrue, List, [], Contains, Option, Some, None, option_map, is_some, refl, sym, ap, ◌∙◌, subst, arith}
use Rattle.krates_cm.specs.Document.{DependencyModel, PackageModel, TargetModel, package_view, text_view}
use Rattle.krates_cm.specs.declared.package.Package.{Package}
use Rattle.krates_rules.specs.Admission.{NoneDoubled}
use Rattle.krates_rules.specs.Facts.{Id}
use Rattle.krates_rules.specs.Resolved.{Resolved, HasPackage, NoPackage}
use Rattle.krates_rules.proofs.OnlyOne.{one_package}
use Rattle.krates_units.specs.BuildTargets.{HasTarget, HasTargetThat, LinksNatively}
use Rattle.krates_units.specs.Resolves.{HasDeclared}

pub targets_here : (r : Resolved) (i : Id) (p : PackageModel) (ts : List TargetModel) → NoneDoubled r.metadata r.graph → HasPackage r i p → p.targets ≡ ts
    → (t : TargetModel) → HasTarget r i t ↔ Contains ts t
targets_here r i p ts none has is t = (
  λ h. subst (λ (us : List TargetModel). Contains us t) (ap (λ (q : PackageModel). q.targets) (one_package r i h.pkg p none h.has_package has) ∙ is) h.among,
  λ a. record { pkg = p; has_package = has; among = subst (λ (us : List TargetModel). Contains us t) (sym is) a },
)

pub no_targets : (r : Resolved) (i : Id) → NoPackage r i → (t : TargetModel) → HasTarget r i t ↔ Contains [] t
no_targets r i none t = (λ h. absurd (none h.pkg h.has_package), λ a. absurd (omega (arith, a.1)))

pub declared_here : (r : Resolved) (i : Id) (p : PackageModel) (ds : List DependencyModel) → NoneDoubled r.metadata r.graph → HasPackage r i p → p.dependencies ≡ ds
    → (d : DependencyModel) → HasDeclared r i d ↔ Contains ds d
declared_here r i p ds none has is d = (
  λ h. subst (λ (us : List DependencyModel). Contains us d) (ap (λ (q : PackageModel). q.dependencies) (one_package r i h.pkg p none h.has_package has) ∙ is) h.among,
  λ a. record { pkg = p; has_package = has; among = subst (λ (us : List DependencyModel). Contains us d) (sym is) a },
)

pub no_declared : (r : Resolved) (i : Id) → NoPackage r i → (d : DependencyModel) → HasDeclared r i d ↔ Contains [] d
no_declared r i none d = (λ h. absurd (none h.pkg h.has_package), λ a. absurd (omega (arith, a.1)))

-- a target for which something holds is one in the list
pub target_that : (r : Resolved) (i : Id) (P : TargetModel → Type 0) (ts : List TargetModel) → ((t : TargetModel) → HasTarget r i t ↔ Contains ts t)
    → HasTargetThat r i P ↔ ((t : TargetModel) × Contains ts t × P t)
target_that r i P ts same = (λ h. (h.0, (same h.0).0 h.1, h.2), λ h. (h.0, (same h.0).1 h.1, h.2))

-- ---- native libraries

value_mapped : {A B : Type 0} (f : A → B) (o : Option A) → is_some o ≡ true → option_map f o ≢ None
value_mapped f None h = λ e. absurd cc
value_mapped f (Some x) h = λ e. absurd cc

value_there : {A B : Type 0} (f : A → B) (o : Option A) → option_map f o ≢ None → is_some o ≡ true
value_there f None h = absurd (h refl)
value_there f (Some x) h = refl

pub native_told : (r : Resolved) (i : Id) (p : Package) (b : Bool) → NoneDoubled r.metadata r.graph → HasPackage r i (package_view p) → b ≡ is_some p.links → IsTrue b ↔ LinksNatively r i
native_told r i p b none has is = (
  λ t. (package_view p, has, value_mapped text_view p.links (sym is ∙ t)),
  λ h. is ∙ value_there text_view p.links (subst (λ (q : PackageModel). q.links ≢ None) (one_package r i h.0 (package_view p) none h.1 has) h.2),
)
