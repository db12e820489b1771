-- Which crates are asked for: as the code tells it, and as the definitions say.
use Rattle.std.proofs.Common.{◌≡◌, ◌↔◌, Bool, IsTrue, List, Contains, map, sym, ◌∙◌, subst}
use Rattle.std.proofs.lemmas.Option.{none-some, same_Some}
use Rattle.std.specs.Global.{Vec}
use Rattle.krates_cm.specs.Document.{Text, PackageModel}
use Rattle.krates_ids.specs.Identity.{Identity}
use Rattle.krates_ids.specs.PackageSpecification.{Specification}
use Rattle.krates_rules.specs.Admission.{NoneDoubled}
use Rattle.krates_rules.specs.Facts.{Id}
use Rattle.krates_rules.specs.Resolved.{Resolved, HasPackage, IsMember, NoPackage, id_of}
use Rattle.krates_rules.proofs.OnlyOne.{one_package}
use Rattle.krates_units.specs.BuildSetting.{BuildSettingModel, default_members, every_member, packages}
use Rattle.krates_units.specs.Requests.{IsDefaultMember, IsReadAmong, IsSelected, as_member, as_specified, by_default, current, member, written}
use Rattle.krates_build_tables.specs.RequestsFlags.{AreWritten, FitsSome}

-- ---- default members

pub written_told : (r : Resolved) (i : Id) (ids : Vec Identity) (b : Bool) → AreWritten r.metadata.workspace_default_members ids → IsMember r i → IsTrue b ↔ Contains (map id_of ids.items) i → IsTrue b ↔ IsDefaultMember r i
written_told r i ids b w m told = (λ t. written w.are ((w.read i).1 (told.0 t)) m, λ d. told.1 ((w.read i).0 (there d)))
  where
    there : IsDefaultMember r i → IsReadAmong w.texts i
    there (written {ids = texts} is among _) = subst (λ (ts : List Text). IsReadAmong ts i) (same_Some texts w.texts (sym is ∙ w.are)) among
    there (current none _) = absurd (none-some w.texts (sym none ∙ w.are))
    there (member none _ _) = absurd (none-some w.texts (sym none ∙ w.are))

-- ---- what is asked for

pub default_told : (r : Resolved) (s : BuildSettingModel) (i : Id) (b : Bool) → s.selection ≡ default_members → IsTrue b ↔ IsDefaultMember r i → IsTrue b ↔ IsSelected r s i
default_told r s i b is told = (λ t. by_default is (told.0 t), λ h. told.1 (there h))
  where
    apart : (specs : List Specification) → default_members ≡ packages specs → ⊥
    apart specs e = cc

    there : IsSelected r s i → IsDefaultMember r i
    there (by_default _ d) = d
    there (as_member other _) = absurd (let e : default_members ≡ every_member = sym is ∙ other in cc)
    there (as_specified {specs = specs} other _ _ _) = absurd (apart specs (sym is ∙ other))

specs_of : (one two : List Specification) → packages one ≡ packages two → two ≡ one
specs_of one two e = cc

specified : (r : Resolved) (s : BuildSettingModel) (i : Id) (specs : List Specification) → s.selection ≡ packages specs → IsSelected r s i → (p : PackageModel) × HasPackage r i p × FitsSome specs p
specified r s i specs is (by_default other _) = absurd (let e : packages specs ≡ default_members = sym is ∙ other in cc)
specified r s i specs is (as_member other _) = absurd (let e : packages specs ≡ every_member = sym is ∙ other in cc)
specified r s i specs is (as_specified {specs = these} {spec = spec} {p = p} other among has fits) =
    (p, has, record { spec = spec; among = subst (λ (list : List Specification). Contains list spec) (specs_of specs these (sym is ∙ other)) among; fits = fits })

pub specified_told : (r : Resolved) (s : BuildSettingModel) (i : Id) (specs : List Specification) (p : PackageModel) (b : Bool) → NoneDoubled r.metadata r.graph → s.selection ≡ packages specs → HasPackage r i p → IsTrue b ↔ FitsSome specs p → IsTrue b ↔ IsSelected r s i
specified_told r s i specs p b none is has told = (
  λ t. let f = told.0 t in as_specified is f.among has f.fits,
  λ h. let x = specified r s i specs is h in told.1 (subst (FitsSome specs) (one_package r i x.0 p none x.1 has) x.2),
)

pub not_specified : (r : Resolved) (s : BuildSettingModel) (i : Id) (specs : List Specification) → s.selection ≡ packages specs → NoPackage r i → IsSelected r s i → ⊥
not_specified r s i specs is none h = let x = specified r s i specs is h in none x.0 x.1
