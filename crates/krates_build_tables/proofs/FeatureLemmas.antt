-- The features of a crate, as its one package has them.
use Rattle.std.proofs.Common.{◌≡◌, ◌↔◌, List, [], ◌∷◌, ◌++◌, inl, inr, Bool, true, false, cond, IsTrue, Option, Some, None, map, option_map, is_some, Contains, refl, sym, ap, ◌∙◌, subst}
use Rattle.std.proofs.lemmas.List.Elements.{Contains-append_left, Contains-push, Contains-push_cases}
use Rattle.std.proofs.lemmas.Option.{none-some, same_Some}
use Rattle.std.specs.Borrow.{Bor}
use Rattle.std.specs.BTreeMap.{BTreeMap}
use Rattle.std.specs.Global.{Vec}
use Rattle.std.specs.Str.{bytes_eq}
use Rattle.krates_cm.specs.Document.{Text, DependencyModel, PackageModel}
use Rattle.krates_ids.specs.Correction.{named}
use Rattle.krates_ids.proofs.CorrectionLemmas.{eq_from_true, true_from_eq}
use Rattle.krates_rules.specs.Admission.{NoneDoubled}
use Rattle.krates_rules.specs.DeclaredDependency.{declared_name}
use Rattle.krates_rules.specs.Facts.{Id}
use Rattle.krates_rules.specs.Resolved.{Resolved, HasPackage, NoPackage}
use Rattle.krates_rules.proofs.OnlyOne.{one_package, place_in}
use Rattle.krates_rules.proofs.Readings.{left_of, right_of}
use Rattle.krates_rules.proofs.Standings.{contains_at}
use Rattle.krates_rules.specs.Rules.{default_name}
use Rattle.krates_text.specs.FeatureReference.{IsReference, HasOneReading}
use Rattle.krates_units.specs.Requests.{GivesFeature, HasFeature, KnowsOptional, by_default, declared}
use Rattle.krates_units.specs.Resolves.{HasDeclared}
use Rattle.krates_build_tables.specs.FeatureLists.{AreFeaturesOf, AreRead, Keeps, ReadsFeature, under}
use Rattle.krates_build_tables.specs.References.{reference_view}
use Rattle.krates_build_tables.specs.declared.reference.FeatureReference.{FeatureReference}
use Rattle.krates_build_tables.proofs.Listing.{Reached}

-- ---- whether there is a feature

nothing_there : {A : Type 0} (o : Option A) → is_some o ≡ false → o ≡ None
nothing_there None h = refl
nothing_there (Some x) h = absurd cc

some_there : {A : Type 0} (o : Option A) → is_some o ≡ true → (x : A) × (o ≡ Some x)
some_there None h = absurd cc
some_there (Some x) h = (x, refl)

pub feature_told : (r : Resolved) (i : Id) (p : PackageModel) (f : Text) (b : Bool) → NoneDoubled r.metadata r.graph → HasPackage r i p → b ≡ is_some (named p.features f) → IsTrue b ↔ HasFeature r i f
feature_told r i p f b none has is = (
  λ t. (let w = some_there (named p.features f) (sym is ∙ t) in record { pkg = p; has_package = has; values = w.0; is = w.1 }),
  λ h. is ∙ ap is_some (ap (λ (q : PackageModel). named q.features f) (one_package r i p h.pkg none has h.has_package) ∙ h.is),
)

pub no_feature : (r : Resolved) (i : Id) (f : Text) → NoPackage r i → HasFeature r i f → ⊥
no_feature r i f none h = none h.pkg h.has_package

-- ---- the features so far, and those that are left

pub passed : (all : Option (List Text)) (b : Bool) (values : List Text) (left : Option (List Text)) (there : Option (Vec FeatureReference)) → (b ≡ true → there ≡ None → ⊥)
    → Keeps all (cond b (Some values) left) there → Keeps all left there
passed all b values left (Some refs) present h = h
passed all true values left None present h = absurd (present refl refl)
passed all false values left None present h = h

pub added : (all : Option (List Text)) (b : Bool) (values : List Text) (left : Option (List Text)) (refs : Vec FeatureReference) (there : Option (Vec FeatureReference)) → AreRead values refs → (b ≡ true → there ≡ None)
    → Keeps all (cond b (Some values) left) there → Keeps all left (cond b (Some refs) there)
added all false values left refs there read absent h = h
added all true values left refs None read absent h = subst (λ (o : Option (List Text)). ReadsFeature o (Some refs)) (sym h) read
added all true values left refs (Some other) read absent h = absurd (let e = absent refl in cc)

pub left_none : (all : Option (List Text)) (there : Option (Vec FeatureReference)) → Keeps all None there → ReadsFeature all there
left_none all None h = subst (λ (o : Option (List Text)). ReadsFeature o None) (sym h) tt
left_none all (Some refs) h = h

-- ---- the references that they list

read_some : (o : Option (List Text)) (values : List Text) (there : Option (Vec FeatureReference)) → o ≡ Some values → ReadsFeature o there → (refs : Vec FeatureReference) × (there ≡ Some refs) × AreRead values refs
read_some None values there is h = absurd cc
read_some (Some vs) values None is h = absurd h
read_some (Some vs) values (Some refs) is h = (refs, refl, subst (λ (us : List Text). AreRead us refs) (same_Some vs values is) h)

read_from : (o : Option (List Text)) (refs : Vec FeatureReference) (there : Option (Vec FeatureReference)) → there ≡ Some refs → ReadsFeature o there → (values : List Text) × (o ≡ Some values) × AreRead values refs
read_from o refs None is h = absurd cc
read_from None refs (Some other) is h = absurd h
read_from (Some vs) refs (Some other) is h = (vs, refl, subst (λ (x : Vec FeatureReference). AreRead vs x) (same_Some other refs is) h)

pub features_here : (r : Resolved) (i : Id) (p : PackageModel) (m : BTreeMap (Bor Text) (Vec FeatureReference)) → ((t : Text) → HasOneReading t) → NoneDoubled r.metadata r.graph → HasPackage r i p
    → ((f : Text) → ReadsFeature (named p.features f) (under f m)) → AreFeaturesOf r i m
features_here r i p m once none has reads f v = (
  λ h. (
      let values = ap (λ (q : PackageModel). named q.features f) (one_package r i p h.pkg none has h.has_package) ∙ h.feature in
      let w = read_some (named p.features f) h.values (under f m) values (reads f) in
      let at = place_in h.values h.text h.among in
      let y = right_of IsReference h.values (map reference_view w.0.items) at.0 h.text w.2 at.1 in
      let one = once h.text in
      let same : y.0 ≡ v = one.only y.0 y.2 ∙ sym (one.only v h.is) in
      (w.0, w.1, subst (Contains (map reference_view w.0.items)) same (contains_at (map reference_view w.0.items) at.0 y.0 y.1))),
  λ h. (
      let w = read_from (named p.features f) h.0 (under f m) h.1 (reads f) in
      let at = place_in (map reference_view h.0.items) v h.2 in
      let y = left_of IsReference w.0 (map reference_view h.0.items) at.0 v w.2 at.1 in
      record { pkg = p; has_package = has; values = w.0; feature = w.1; text = y.0; among = contains_at w.0 at.0 y.0 y.1; is = y.2 }),
)

pub no_features : (r : Resolved) (i : Id) (m : BTreeMap (Bor Text) (Vec FeatureReference)) → NoPackage r i → ((f : Text) → under f m ≡ None) → AreFeaturesOf r i m
no_features r i m none empty f v = (λ h. absurd (none h.pkg h.has_package), λ h. absurd (none-some h.0 (sym (empty f) ∙ h.1)))

-- ---- the names of optional dependencies that are features

-- the dependency is optional and its name, which is this one, is a feature
abbrev pub Implies : Resolved → Id → DependencyModel → Text → Type 0
Implies r i d c = (IsTrue d.optional × HasFeature r i (declared_name d)) × (declared_name d ≡ c)

pub implied_told : (r : Resolved) (i : Id) (ds : List DependencyModel) (names : List Text) → ((d : DependencyModel) → HasDeclared r i d ↔ Contains ds d) → ((c : Text) → Reached (Implies r i) ds c ↔ Contains names c)
    → (c : Text) → (KnowsOptional r i c × HasFeature r i c) ↔ Contains names c
implied_told r i ds names same lists c = (
  λ h. (
      let k = h.0 in
      let feature = subst (HasFeature r i) (sym k.2) h.1 in
      (lists c).0 (k.0, (same k.0).0 k.1, ((k.3, feature), k.2))),
  λ h. (
      let w = (lists c).1 h in
      ((w.0, (same w.0).1 w.1, w.2.1, w.2.0.0), subst (HasFeature r i) w.2.1 w.2.0.1)),
)

pub some_mapped : {A B : Type 0} (f : A → B) (o : Option A) → is_some o ≡ is_some (option_map f o)
some_mapped f None = refl
some_mapped f (Some x) = refl

-- ---- texts

same_tests : (a b : Bool) → (a ≡ true → b ≡ true) → (b ≡ true → a ≡ true) → a ≡ b
same_tests true b there back = sym (there refl)
same_tests false true there back = back refl
same_tests false false there back = refl

-- equal texts are equal from either side
pub flipped : (s t : Text) → bytes_eq s t ≡ bytes_eq t s
flipped s t = same_tests (bytes_eq s t) (bytes_eq t s) (λ e. true_from_eq t s (sym (eq_from_true s t e))) (λ e. true_from_eq s t (sym (eq_from_true t s e)))

-- what is there isn't missing under an equal text
pub present_at : {X : Type 0} (m : BTreeMap (Bor Text) X) (f key : Text) → is_some (under key m) ≡ true → bytes_eq f key ≡ true → under f m ≡ None → ⊥
present_at m f key there e none = absurd (let n = ap (λ (t : Text). under t m) (sym (eq_from_true f key e)) ∙ none in let s = sym there ∙ ap is_some n in cc)

pub absent_at : {X : Type 0} (m : BTreeMap (Bor Text) X) (f key : Text) → is_some (under key m) ≡ false → bytes_eq f key ≡ true → under f m ≡ None
absent_at m f key none e = ap (λ (t : Text). under t m) (eq_from_true f key e) ∙ nothing_there (under key m) none

-- ---- what a dependency gives

given_here : (r : Resolved) (d : DependencyModel) (c : Id) (g : Text) → (d.uses_default_features ≡ true → HasFeature r c default_name → ⊥) → GivesFeature r d c g → Contains d.features g
given_here r d c g none (declared among) = among
given_here r d c g none (by_default uses has) = absurd (none uses has)

pub given_without : (r : Resolved) (d : DependencyModel) (c : Id) (out : List Text) → out ≡ d.features → (d.uses_default_features ≡ true × HasFeature r c default_name → ⊥) → (g : Text) → GivesFeature r d c g ↔ Contains out g
given_without r d c out same none g = rw same (given_here r d c g (λ u h. none (u, h)), λ h. declared h)

given_either : (r : Resolved) (d : DependencyModel) (c : Id) (g : Text) → GivesFeature r d c g → Contains (d.features ++ default_name ∷ []) g
given_either r d c g (declared among) = Contains-append_left d.features (default_name ∷ []) g among
given_either r d c g (by_default uses has) = Contains-push d.features default_name

pub given_with : (r : Resolved) (d : DependencyModel) (c : Id) (out : List Text) → out ≡ d.features ++ default_name ∷ [] → d.uses_default_features ≡ true × HasFeature r c default_name → (g : Text)
    → GivesFeature r d c g ↔ Contains out g
given_with r d c out same has g = rw same (
  given_either r d c g,
  λ h. elim (Contains-push_cases d.features default_name g h) [ inl a ↦ declared a | inr e ↦ subst (GivesFeature r d c) e (by_default has.0 has.1) ],
)
