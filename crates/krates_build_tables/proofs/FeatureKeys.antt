-- The features of a package, by the keys of its map.
use Rattle.std.proofs.Common.{◌≡◌, zero, suc, Bor, String, List, [], ◌∷◌, ◌++◌, Bool, true, false, cond, Option, Some, Contains, map, inl, inr, refl, sym, ap, ◌∙◌, subst, arith}
use mathlib.Core.List.{map-map}
use Rattle.std.proofs.lemmas.List.Elements.{Contains-append_cases, Contains-append_left, Contains-append_right, Contains-push}
use Rattle.std.proofs.lemmas.Slice.Eq.{bytes_eq-Decides}
use Rattle.std.specs.Str.{bytes_eq}
use Rattle.std.specs.Global.{Vec}
use Rattle.std.specs.declared.alloc.Global.{Global}
use Rattle.krates_cm.specs.Document.{Text, PackageModel, features_view, package_view, text_view, texts_view}
use Rattle.krates_cm.specs.declared.package.Package.{Package}
use Rattle.krates_ids.specs.Correction.{named}
use Rattle.krates_rules.specs.Admission.{NoneDoubled}
use Rattle.krates_rules.specs.Facts.{Id}
use Rattle.krates_rules.specs.Resolved.{Resolved, HasPackage}
use Rattle.krates_rules.proofs.Elements.{contains_image, contains_source}
use Rattle.krates_rules.proofs.OnlyOne.{one_package}
use Rattle.krates_text.specs.FeatureReference.{Reference, simple}
use Rattle.krates_units.specs.BuildSetting.{BuildSettingModel}
use Rattle.krates_units.specs.Requests.{RootKind}
use Rattle.krates_build_tables.specs.References.{reference_view}
use Rattle.krates_build_tables.specs.Requests.{Adds, AsksAllOf, AsksEach, HasSimple}
use Rattle.krates_build_tables.specs.declared.reference.FeatureReference.{FeatureReference}

-- the names of the entries
abbrev pub names_of : {A : Type 0} → List (Text × A) → List Text
names_of es = map (λ e. e.0) es

one_there : (t f : Text) → Contains (t ∷ []) f → f ≡ t
one_there t f (zero, lt, is) = sym is
one_there t f (suc k, lt, is) = absurd (omega (arith, lt))

-- what a name is found with, at the first entry or after it
found_at : {A : Type 0} (b : Bool) (a v : A) (rest : Option A) (keys : List Text) (t f : Text) → (b ≡ true → f ≡ t) → (rest ≡ Some v → Contains keys f) → cond b (Some a) rest ≡ Some v → Contains (t ∷ keys) f
found_at true a v rest keys t f here later e = subst (λ (u : Text). Contains (u ∷ keys) f) (here refl) (Contains-append_left (f ∷ []) keys f (Contains-push [] f))
found_at false a v rest keys t f here later e = Contains-append_right (t ∷ []) keys f (later e)

pub name_there : {A : Type 0} (es : List (Text × A)) (f : Text) (v : A) → named es f ≡ Some v → Contains (names_of es) f
name_there [] f v e = absurd cc
name_there (x ∷ es) f v e = found_at (bytes_eq f x.0) x.1 v (named es f) (names_of es) x.0 f (bytes_eq-Decides f x.0).0 (name_there es f v) e

chosen : {A : Type 0} (b : Bool) (a v : A) (rest : Option A) → rest ≡ Some v → (w : A) × (cond b (Some a) rest ≡ Some w)
chosen true a v rest e = (a, refl)
chosen false a v rest e = (v, e)

first : {A : Type 0} (b : Bool) (a : A) (rest : Option A) → b ≡ true → (w : A) × (cond b (Some a) rest ≡ Some w)
first true a rest e = (a, refl)
first false a rest e = absurd cc

pub value_there : {A : Type 0} (es : List (Text × A)) (f : Text) → Contains (names_of es) f → (v : A) × (named es f ≡ Some v)
value_there [] f (k, lt, is) = absurd (omega (arith, lt))
value_there (x ∷ es) f c = elim (Contains-append_cases (x.0 ∷ []) (names_of es) f c) [
  | inl here ↦ first (bytes_eq f x.0) x.1 (named es f) ((bytes_eq-Decides f x.0).1 (one_there x.0 f here))
  | inr later ↦ (let v = value_there es f later in chosen (bytes_eq f x.0) x.1 v.0 (named es f) v.1)
]

-- ---- the list of the keys

pub keys_added : (p : Package) (xs ys : List FeatureReference) (keys : List (Bor (String Global))) → map reference_view ys ≡ map reference_view xs ++ map (λ k. simple (text_view k.now)) keys → map (λ k. k.now) keys ≡ map (λ e. e.0) p.features.entries
    → Adds (HasSimple (package_view p)) xs ys
keys_added p xs ys keys added all v =
    let entries = p.features.entries in
    let features = features_view p.features in
    let texts : map (λ (k : Bor (String Global)). text_view k.now) keys ≡ names_of features =
    sym (map-map text_view (λ (k : Bor (String Global)). k.now) keys) ∙ ap (map text_view) all ∙ map-map text_view (λ (e : String Global × Vec (String Global)). e.0) entries
    ∙ sym (map-map (λ (e : Text × List Text). e.0) (λ (e : String Global × Vec (String Global)). (text_view e.0, texts_view e.1)) entries) in
    let names : map (λ (k : Bor (String Global)). simple (text_view k.now)) keys ≡ map simple (names_of features) =
    sym (map-map simple (λ (k : Bor (String Global)). text_view k.now) keys) ∙ ap (map simple) texts in
    let is : map reference_view ys ≡ map reference_view xs ++ map simple (names_of features) = added ∙ ap (λ (vs : List Reference). map reference_view xs ++ vs) names in
    rw is (
      λ c. elim (Contains-append_cases (map reference_view xs) (map simple (names_of features)) v c) [
        | inl before ↦ inl before
        | inr here ↦ (
            let f = contains_source simple (names_of features) v here in
            let value = value_there features f.0 f.1 in
            inr (record { feature = f.0; values = value.0; has = value.1; is = sym f.2 }))
      ],
      λ e. elim e [
        | inl before ↦ Contains-append_left (map reference_view xs) (map simple (names_of features)) v before
        | inr h ↦ (
            let among = contains_image simple (names_of features) h.feature (name_there features h.feature h.values h.has) in
            Contains-append_right (map reference_view xs) (map simple (names_of features)) v (subst (λ (w : Reference). Contains (map simple (names_of features)) w) (sym h.is) among))
      ],
    )

-- ---- a root of which all are requested

pub each_asked : (r : Resolved) (s : BuildSettingModel) (i : Id) (kind : RootKind) (p : PackageModel) (v : Reference) → HasPackage r i p → AsksAllOf s kind → HasSimple p v → AsksEach r s i kind v
each_asked r s i kind p v has asks h = record { asks = asks; feature = h.feature; has = record { pkg = p; has_package = has; values = h.values; is = h.has }; is = h.is }

pub each_here : (r : Resolved) (s : BuildSettingModel) (i : Id) (kind : RootKind) (p : PackageModel) (v : Reference) → NoneDoubled r.metadata r.graph → HasPackage r i p → AsksEach r s i kind v → HasSimple p v
each_here r s i kind p v none has e =
    let same = one_package r i e.has.pkg p none e.has.has_package has in
    record { feature = e.feature; values = e.has.values; has = subst (λ (q : PackageModel). named q.features e.feature ≡ Some e.has.values) same e.has.is; is = e.is }
