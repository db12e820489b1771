-- What the package of a crate has, by name: as the code finds it in the package, and as the definitions see it.
use Rattle.std.proofs.Common.{◌≡◌, ◌↔◌, Bool, true, false, IsTrue, Option, Some, None, option_map, is_some, Contains, refl, sym, ◌∙◌, subst}
use Rattle.std.specs.BTreeMap.{get_by_text}
use Rattle.krates_cm.specs.Document.{Text, PackageModel, package_view, texts_view}
use Rattle.krates_cm.specs.declared.package.Package.{Package}
use Rattle.krates_ids.specs.Correction.{named}
use Rattle.krates_questions.proofs.FeatureNames.{named_here}
use Rattle.krates_rules.specs.Admission.{NoneDoubled}
use Rattle.krates_rules.specs.Facts.{Id}
use Rattle.krates_rules.specs.Resolved.{Resolved, HasPackage}
use Rattle.krates_rules.proofs.OnlyOne.{one_package}
use Rattle.krates_units.specs.Requests.{HasFeature, KnowsName, KnowsOptional}
use Rattle.krates_build_tables.specs.RequestsTaken.{DeclaresNamed}

-- ---- features

value_there : {A B : Type 0} (f : A → B) (o : Option A) → is_some o ≡ true → (y : B) × (option_map f o ≡ Some y)
value_there f None h = absurd cc
value_there f (Some x) h = (f x, refl)

is_there : {A B : Type 0} (f : A → B) (o : Option A) (y : B) → option_map f o ≡ Some y → is_some o ≡ true
is_there f None y h = absurd cc
is_there f (Some x) y h = refl

pub feature_told : (r : Resolved) (i : Id) (f : Text) (p : Package) (b : Bool) → NoneDoubled r.metadata r.graph → HasPackage r i (package_view p) → b ≡ is_some (get_by_text p.features f) → IsTrue b ↔ HasFeature r i f
feature_told r i f p b none has is = (
  λ t.
      let v = value_there texts_view (get_by_text p.features f) (sym is ∙ t) in
      record { pkg = package_view p; has_package = has; values = v.0; is = named_here p f ∙ v.1 },
  λ h.
      let same = one_package r i h.pkg (package_view p) none h.has_package has in
      let there = subst (λ (q : PackageModel). named q.features f ≡ Some h.values) same h.is in
      is ∙ is_there texts_view (get_by_text p.features f) h.values (sym (named_here p f) ∙ there),
)

-- ---- dependencies

pub name_told : (r : Resolved) (i : Id) (name : Text) (p : PackageModel) (b : Bool) → NoneDoubled r.metadata r.graph → HasPackage r i p → IsTrue b ↔ DeclaresNamed p.dependencies name false → IsTrue b ↔ KnowsName r i name
name_told r i name p b none has told = (
  λ t. let d = told.0 t in (d.dep, record { pkg = p; has_package = has; among = d.among }, d.named),
  λ h.
      let same = one_package r i h.1.pkg p none h.1.has_package has in
      told.1 (record { dep = h.0; among = subst (λ (q : PackageModel). Contains q.dependencies h.0) same h.1.among; named = h.2; optional = λ only. absurd cc }),
)

pub optional_told : (r : Resolved) (i : Id) (name : Text) (p : PackageModel) (b : Bool) → NoneDoubled r.metadata r.graph → HasPackage r i p → IsTrue b ↔ DeclaresNamed p.dependencies name true → IsTrue b ↔ KnowsOptional r i name
optional_told r i name p b none has told = (
  λ t. let d = told.0 t in (d.dep, record { pkg = p; has_package = has; among = d.among }, d.named, d.optional refl),
  λ h.
      let same = one_package r i h.1.pkg p none h.1.has_package has in
      told.1 (record { dep = h.0; among = subst (λ (q : PackageModel). Contains q.dependencies h.0) same h.1.among; named = h.2; optional = λ only. h.3 }),
)
