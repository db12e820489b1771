-- The references of a feature, as the map of a package has them.
use Rattle.std.proofs.Common.{◌≡◌, List, [], ◌∷◌, map, Bool, true, false, cond, Option, Some, None, option_map, Contains, nat_cmp, refl, sym, ap, ◌∙◌, subst, arith}
use Rattle.std.proofs.lemmas.Map.Text.{is_eq-slice_cmp}
use Rattle.std.proofs.lemmas.Option.{none-some, same_Some}
use Rattle.std.specs.BTreeMap.{is_at, get_by_text}
use Rattle.std.specs.Cmp.Lexicographic.{slice_cmp}
use Rattle.std.specs.Map.{lookup}
use Rattle.std.specs.Str.{bytes_eq}
use Rattle.krates_cm.specs.Document.{Text, PackageModel, text_view, texts_view, package_view}
use Rattle.krates_cm.specs.declared.package.Package.{Package}
use Rattle.krates_ids.specs.Correction.{named}
use Rattle.krates_rules.specs.Admission.{NoneDoubled}
use Rattle.krates_rules.specs.Facts.{Id}
use Rattle.krates_questions.specs.FeatureTable.{AreNamed, AreValuesOf, values_of}
use Rattle.krates_rules.specs.Resolved.{Resolved, HasPackage, NoPackage}
use Rattle.krates_rules.proofs.OnlyOne.{one_package}

-- one entry more in front
at_front : {X Y : Type 0} (seen : X → Y) (b : Bool) (x : X) (there : Option Y) (found : Option X) → there ≡ option_map seen found → cond b (Some (seen x)) there ≡ option_map seen (cond b (Some x) found)
at_front seen true x there found e = refl
at_front seen false x there found e = e

-- what the map has under a text is what the list has under that name
named-entries : {K X Y : Type 0} (key : K → Text) (seen : X → Y) (es : List (K × X)) (name : Text)
    → named (map (λ e. (key e.0, seen e.1)) es) name ≡ option_map seen (lookup (is_at (λ k. slice_cmp nat_cmp name (key k))) es)
named-entries key seen [] name = refl
named-entries key seen (e ∷ es) name =
    rw (is_eq-slice_cmp name (key e.0)) (at_front seen (bytes_eq name (key e.0)) e.1 _ _ (named-entries key seen es name))

pub named_here : (p : Package) (name : Text) → named (package_view p).features name ≡ option_map texts_view (get_by_text p.features name)
named_here p name = named-entries text_view texts_view p.features.entries name

-- the package with the id has the feature, with these values
pub values_here : (r : Resolved) (i : Id) (f : Text) (p : PackageModel) (values : List Text) → NoneDoubled r.metadata r.graph → HasPackage r i p → named p.features f ≡ Some values → AreValuesOf r i f values
values_here r i f p values none has is reference = (
  λ h. (
      let same = same_Some h.values values (sym h.feature ∙ ap (λ (q : PackageModel). named q.features f) (one_package r i h.pkg p none h.has_package has) ∙ is) in
      record { text = h.text; among = subst (λ (vs : List Text). Contains vs h.text) same h.among; is = h.is }),
  λ a. record { pkg = p; has_package = has; values = values; feature = is; text = a.text; among = a.among; is = a.is },
)

no_values : (r : Resolved) (i : Id) (f : Text) → ((p : PackageModel) (values : List Text) → HasPackage r i p → named p.features f ≡ Some values → ⊥) → AreValuesOf r i f []
no_values r i f none reference = (λ h. absurd (none h.pkg h.values h.has_package h.feature), λ a. absurd (omega (arith, a.among.1)))

-- the package lacks the feature
pub lacks_values : (r : Resolved) (i : Id) (f : Text) (p : PackageModel) → NoneDoubled r.metadata r.graph → HasPackage r i p → named p.features f ≡ None → AreValuesOf r i f []
lacks_values r i f p none has is =
    no_values r i f (λ q values h there. none-some values (sym is ∙ ap (λ (q : PackageModel). named q.features f) (one_package r i p q none has h) ∙ there))

-- there is no such package
pub no_package_values : (r : Resolved) (i : Id) (f : Text) → NoPackage r i → AreValuesOf r i f []
no_package_values r i f lacks = no_values r i f (λ p values h there. lacks p h)

-- what the one package with the id has under the name
pub are_named : (r : Resolved) (i : Id) (f : Text) (p : PackageModel) (values : List Text) → NoneDoubled r.metadata r.graph → HasPackage r i p → values_of p.features f ≡ values → AreNamed r i f values
are_named r i f p values none has is q h = ap (λ (o : PackageModel). values_of o.features f) (one_package r i q p none h has) ∙ is
